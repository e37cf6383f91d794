use Rattle.std.proofs.Common.{◌≡◌, ◌∙◌, ap, sym, subst}
use Rattle.std.specs.Prelude.{is_some}
use Rattle.node.specs.Nodes.{answer_of}
use Rattle.audit.specs.Nodes.{Replayed, RunsUnlessStopped, state_shown}
use Rattle.audit.specs.Replays as spec
use Rattle.audit.proofs.Replaying.{answer_shown}
use Rattle.audit.proofs.replay.Replay.has_answer.Goals as goal

pub returns-in-Some : goal.returns-in-Some
returns-in-Some g c =
    let crashed = c.self.inside.crashed in
    let node = c.in-Some.node in
    let same : answer_of (record { user = c.get-user.result.0; ticket = c.get-user.result.1 }) node.awaited ≡ answer_of c.args.id node.awaited = λ i. answer_of (record { user = c.get-user.ensures.user i; ticket = c.get-user.ensures.ticket i }) node.awaited in
    answer_shown node crashed c.args.id c.has_answer.result (subst RunsUnlessStopped c.in-Some.is c.self.invariant) (c.has_answer.ensures.value ∙ ap is_some same) c.has_answer.ensures.stopped
    ∙ ap (λ s. is_some (spec.answer s c.args.id)) (ap (λ n. state_shown n crashed) (sym c.in-Some.is) ∙ ap (λ (r : Replayed g.row.A.Denot). r.state) c.self.view_is)
