use Rattle.std.proofs.Common.{◌≡◌, Some, ap, subst, sym, ◌∙◌}
use Rattle.std.specs.declared.alloc.Global.{Global}
use Rattle.runs.specs.Refusals.{step_refusal}
use Rattle.runs.specs.declared.refused.Refused.{Refused}
use Rattle.world.specs.Values.{WorldValue}
use Rattle.simulator.specs.Following.{IsFollowed}
use Rattle.simulator.proofs.Arrivals.{step_grows}
use Rattle.simulator.proofs.Marks.{later_marks}
use Rattle.simulator.proofs.Stepping.{last_given, refused_followed, submitting, submitted_followed, unrefused}
use Rattle.simulator.proofs.service.Service.submit.Goals as goal

pub invariant_of-self-in_err-step : goal.invariant_of-self-in_err-step
invariant_of-self-in_err-step c =
    let old = c.self.inside.world.world in
    let new = c.step.new.self.world in
    let e = c.step.ensures in
    let unchanged : (reason : Refused) → step_refusal old.config old.service c.args.event ≡ Some reason → new ≡ old = λ reason is. ap (λ (v : WorldValue Global). v.world) (e.unchanged reason is) in (
      later_marks old.service.network.sent new.service.network.sent c.self.inside.marks.items (step_grows old new c.args.event c.step.result unchanged e.ok e.interrupted) c.self.invariant.0,
      subst (λ ids. IsFollowed new ids c.self.inside.operations.waiting) (sym c.reserve.ensures.items)
          (refused_followed old new c.args.event c.self.inside.operations.ids.items c.self.inside.operations.waiting c.self.invariant.1 e.config unchanged (λ possible. c.in_err-step.ensures.interrupted possible) c.in_err-step.ensures.operations),
    )

pub unreachable-requires : goal.unreachable-requires
unreachable-requires c =
    let old = c.self.inside.world.world in
    let possible = unrefused c.step.result (step_refusal old.config old.service c.args.event) c.in_ok-step.field-0 c.in_ok-step.was c.step.ensures.refused in
    let s = submitting old.config old.service c.args.event (c.args.node, c.args.user) c.requires possible in
    absurd (cc (sym c.in_default.is ∙ c.last_ticket.ensures ∙ last_given old c.step.new.self c.args.event c.args.node c.args.user s c.in_ok-step.ensures.ok))

pub invariant_of-self-2 : goal.invariant_of-self-2
invariant_of-self-2 c =
    let old = c.self.inside.world.world in
    let new = c.step.new.self.world in
    let e = c.step.ensures in
    let unchanged : (reason : Refused) → step_refusal old.config old.service c.args.event ≡ Some reason → new ≡ old = λ reason is. ap (λ (v : WorldValue Global). v.world) (e.unchanged reason is) in
    let possible = unrefused c.step.result (step_refusal old.config old.service c.args.event) c.in_ok-step.field-0 c.in_ok-step.was e.refused in
    let s = submitting old.config old.service c.args.event (c.args.node, c.args.user) c.requires possible in
    let followed : IsFollowed old c.reserve.new.self.items c.self.inside.operations.waiting = subst (λ ids. IsFollowed old ids c.self.inside.operations.waiting) (sym c.reserve.ensures.items) c.self.invariant.1 in (
      later_marks old.service.network.sent new.service.network.sent c.self.inside.marks.items (step_grows old new c.args.event c.step.result unchanged e.ok e.interrupted) c.self.invariant.0,
      subst (λ ids. IsFollowed new ids c.add.new.self.waiting) (sym c.add.ensures.ids)
          (submitted_followed old c.step.new.self c.args.event c.args.node c.args.user s c.in_ok-step.ensures.ok c.reserve.new.self.items c.self.inside.operations.waiting c.add.new.self.waiting c.in-Some.ticket c.new.result followed
          (sym c.in-Some.is ∙ c.last_ticket.ensures) c.new.ensures c.add.ensures.own c.add.ensures.others),
    )
