use Rattle.std.proofs.Common.{◌≡◌, ◌∙◌, ◌⊎◌, List, subst}
use Rattle.std.specs.declared.alloc.Global.{Global}
use Rattle.session.specs.declared.transcript.Transcript.{Transcript}
use Rattle.service.specs.Epochs.{WasLegalEpoch}
use Rattle.service.specs.Transcripts.{AreEnded, WereServed}
use Rattle.service.specs.Verdicts.{IsFound, IsJudged, IsLegal, config_of}
use Rattle.service.specs.declared.verdict.Verdict.TheVariants.{Legal, Memory}
use Rattle.service.proofs.Judged.{judged, legal, found_legal}
use Rattle.service.proofs.epoch.EndedEpoch.judge.Goals as goal

pub returns-clause-judged : goal.returns-clause-judged
returns-clause-judged c =
    let verdict = c.verdict_on-verdict.result in
    let found = subst (λ ls. (verdict ≡ Memory) ⊎ IsFound ls c.self.inside.transcripts verdict) (c.as_slice.ensures.value ∙ c.into_vec-logs.ensures) c.verdict_on-verdict.ensures in
    subst (λ e. IsJudged e.logs e.transcripts verdict) c.self.view_is (judged _ _ verdict found)

pub returns-clause-legal : goal.returns-clause-legal
returns-clause-legal c =
    let verdict = c.verdict_on-verdict.result in
    let found = subst (λ ls. (verdict ≡ Memory) ⊎ IsFound ls c.self.inside.transcripts verdict) (c.as_slice.ensures.value ∙ c.into_vec-logs.ensures) c.verdict_on-verdict.ensures in
    subst
    (λ e. verdict ≡ Legal → (all : List (Transcript Global)) → AreEnded e.transcripts all → WereServed e.accounts all → IsLegal (config_of e.accounts e.setup) e.logs all)
    c.self.view_is (legal _ c.self.invariant verdict found)

pub returns-clause-found : goal.returns-clause-found
returns-clause-found c =
    let verdict = c.verdict_on-verdict.result in
    let found = subst (λ ls. (verdict ≡ Memory) ⊎ IsFound ls c.self.inside.transcripts verdict) (c.as_slice.ensures.value ∙ c.into_vec-logs.ensures) c.verdict_on-verdict.ensures in
    subst (λ e. verdict ≡ Legal → WasLegalEpoch e) c.self.view_is (found_legal _ c.self.invariant verdict found)
