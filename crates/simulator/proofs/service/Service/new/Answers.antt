use Rattle.std.proofs.Common.{sym, subst, ◌∙◌}
use Rattle.simulator.specs.Undelivered.{AreMarks}
use Rattle.simulator.proofs.Marks.{no_marks}
use Rattle.simulator.proofs.Stepping.{begun_followed}
use Rattle.simulator.proofs.service.Service.new.Goals as goal

pub invariant_of-result : goal.invariant_of-result
invariant_of-result c = (
  subst (λ ms. AreMarks c.in_ok-new.field-0.world.service.network.sent ms) (sym c.new-2.ensures.items) (no_marks c.in_ok-new.field-0.world.service.network.sent),
  begun_followed c.args.config c.in_ok-new.field-0.world c.in_ok-new-2.field-0.ids.items c.in_ok-new-2.field-0.waiting c.from-nodes.result c.in_ok-new.ensures.world c.in_ok-new-2.ensures.ids c.in_ok-new-2.ensures.heard
      (c.from-nodes.ensures ∙ c.get.ensures.value) c.get.ensures.range.1,
)
