use Rattle.std.proofs.Common.{sym, ap, subst, ◌∙◌, length}
use Rattle.std.specs.List.{position}
use Rattle.simulator.specs.Undelivered.{is_next, HaveArrived}
use Rattle.simulator.proofs.Marks.{arrived_before, all_arrived}
use Rattle.simulator.proofs.service.Service.first_undelivered.Goals as goal

pub invariant_of-self : goal.invariant_of-self
invariant_of-self c =
    let sent = c.self.inside.world.world.service.network.sent in (
      c.keep.ensures sent c.self.invariant.0
          (arrived_before sent c.args.route c.in-Some.place (ap (position (is_next c.args.route)) (sym c.sent.ensures.value) ∙ sym c.first_undelivered.ensures ∙ c.in-Some.is)),
      c.self.invariant.1,
    )

pub invariant_of-self-in-None : goal.invariant_of-self-in-None
invariant_of-self-in-None c =
    let sent = c.self.inside.world.world.service.network.sent in (
      c.keep-in-None.ensures sent c.self.invariant.0
          (subst (λ all. HaveArrived c.args.route (length all) sent) (sym c.sent-in-None.ensures.value)
          (all_arrived sent c.args.route (ap (position (is_next c.args.route)) (sym c.sent.ensures.value) ∙ sym c.first_undelivered.ensures ∙ c.in-None.is))),
      c.self.invariant.1,
    )
