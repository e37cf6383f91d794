use Rattle.std.proofs.Common.{◌≡◌, ◌∙◌, ◌-◌, ◌<◌, suc, length, refl, ap, sym, arith, drop}
use Rattle.session.specs.declared.transcript.Transcript.{Transcript}
use Rattle.std.specs.Map.{lookup}
use Rattle.std.proofs.lemmas.Option.{slice_get_read}
use Rattle.maildrop.specs.CommandId.{same_id}
use Rattle.audit.specs.Names.{named_from}
use Rattle.audit.proofs.Naming.{entered_all, at_least}
use Rattle.audit.proofs.command_index.index_of.Goals as goal

pub loop-session-preserved : goal.loop-session-preserved
loop-session-preserved g c id =
    let n = c.loop-session.session in
    let ts = c.args.transcripts.now in
    let t = c.index-transcripts-session.result in
    let positive = c.loop-session-test.true in
    let bound = c.loop-session.auto.session in
    let next : suc (n - 1) ≡ n = omega (arith, positive) in
    let within : n - 1 < length ts = omega (arith, positive, bound) in
    entered_all id (n - 1) n ts t c.get.result.now _ _ next
    (slice_get_read ts (length ts) (n - 1) t refl within c.index-transcripts-session.is)
    (c.get.ensures ∙ ap (λ (t : Transcript g.row.A.Denot). t.asked) (sym c.index-transcripts-session.is))
    (c.in_ok-enter.ensures id)
    (c.loop-session.invariant id)

pub returns : goal.returns
returns g c id =
    at_least (λ n. lookup (same_id id) c.loop-session.names.entries ≡ named_from id n (drop n c.args.transcripts.now)) c.loop-session.session c.loop-session-test.false (c.loop-session.invariant id)
