use Rattle.std.proofs.Common.{◌≡◌, Some, ap, sym, ◌∙◌}
use Rattle.std.specs.declared.alloc.Global.{Global}
use Rattle.runs.specs.Refusals.{step_refusal}
use Rattle.runs.specs.declared.refused.Refused.{Refused}
use Rattle.world.specs.Values.{WorldValue}
use Rattle.simulator.proofs.Arrivals.{step_grows}
use Rattle.simulator.proofs.Marks.{later_marks}
use Rattle.simulator.proofs.Stepping.{stepped_followed}
use Rattle.simulator.proofs.service.Service.step.Goals as goal

pub invariant_of-self : goal.invariant_of-self
invariant_of-self c =
    let old = c.self.inside.world.world in
    let new = c.step.new.self.world in
    let e = c.step.ensures in
    let unchanged : (reason : Refused) → step_refusal old.config old.service c.args.event ≡ Some reason → new ≡ old = λ reason is. ap (λ (v : WorldValue Global). v.world) (e.unchanged reason is) in (
      later_marks old.service.network.sent new.service.network.sent c.self.inside.marks.items (step_grows old new c.args.event c.step.result unchanged e.ok e.interrupted) c.self.invariant.0,
      stepped_followed old new c.args.event c.self.inside.operations.ids.items c.self.inside.operations.waiting c.self.invariant.1 e.config c.step.result (sym c.operation_in.ensures ∙ c.in-None.is)
          unchanged e.ok e.interrupted e.operations,
    )
