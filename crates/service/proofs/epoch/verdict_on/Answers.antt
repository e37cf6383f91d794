use Rattle.std.proofs.Common.{rules, ◌≡◌, subst, inr}
use Rattle.service.specs.Transcripts.{numbered}
use Rattle.service.specs.Verdicts.{IsFound, IsVerdict}
use Rattle.service.proofs.epoch.verdict_on.Goals as goal

pub returns : goal.returns
returns c =
    let inside = c.transcripts.inside in
    let verdict = c.verdict_of-verdict.result in
    let named : c.numbered.result ≡ numbered inside.numbers.items verdict = search (c.numbered.ensures, c.deref.ensures, rules) in
    let all : inside.ended ≡ inside.greeted = search rules in
    inr
    (subst (λ value. IsFound c.args.logs.now value c.numbered.result) c.transcripts.view_is
    (record {
      found = verdict;
      of_kept = subst (λ kept. IsVerdict c.args.logs.now kept verdict) c.as_slice.ensures.value c.verdict_of-verdict.ensures;
      named = named;
      whole = c.if-transcripts.false;
      all = all;
    }))
