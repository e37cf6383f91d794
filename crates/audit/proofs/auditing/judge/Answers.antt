use Rattle.std.proofs.Common.{◌∙◌, [], sym, subst}
use Rattle.audit.specs.Checks.{AreReplayed, AreLeft}
use Rattle.audit.specs.Order.{IsLegalOrder}
use Rattle.audit.specs.Records.{case_of}
use Rattle.audit.proofs.Fit.{order_written}
use Rattle.audit.proofs.Judging.{are_seated}
use Rattle.audit.proofs.auditing.judge.Goals as goal

pub answered_of-requires : goal.answered_of-requires
answered_of-requires g c = subst (AreReplayed c.args.logs.now c.args.transcripts.now) (sym c.deref.ensures.value) c.requires.replayed

pub first_wrong-wrong-requires-clause-answers : goal.first_wrong-wrong-requires-clause-answers
first_wrong-wrong-requires-clause-answers g c =
    let logs = c.args.logs.now in
    let ts = c.args.transcripts.now in
    subst (AreLeft logs ts []) (sym c.deref_mut.ensures.value) (c.in_ok-outcomes.ensures logs ts c.requires.replayed)

pub returns-in-Some-clause-cause : goal.returns-in-Some-clause-cause
returns-in-Some-clause-cause g c = (c.requires.whole, sym c.in-Some.ensures)

pub returns-clause-order : goal.returns-clause-order
returns-clause-order g c = λ fit.
    let logs = c.args.logs.now in
    let ts = c.args.transcripts.now in
    let a = case_of logs ts in
    let right = sym c.first_wrong-wrong.ensures ∙ c.in_default.is in
    subst (IsLegalOrder a) (sym (c.in_ok-events.ensures (are_seated logs ts fit.some right))) (order_written logs ts fit c.args.placements.now c.requires.placed right)
