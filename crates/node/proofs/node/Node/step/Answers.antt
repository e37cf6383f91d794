use Rattle.std.proofs.Common.{None, Option, ap, ◌∙◌, subst}
use Rattle.node.specs.Nodes.{NodeValue, IsKept, no_ticket_for}
use Rattle.node.specs.declared.stopped.Stopped.{Stopped}
use Rattle.node.proofs.Steps.{step_kept, step_sends, step_answers}
use Rattle.node.proofs.node.Node.step.Goals as goal

pub invariant_of-self : goal.invariant_of-self
invariant_of-self g c =
    let n = c.self.inside in
    let runs : IsKept n.log n.roles n.given.entries None = subst (λ (s : Option Stopped). IsKept n.log n.roles n.given.entries s) c.in_default.is c.self.invariant in
    step_kept n.log c.args.input n.roles c.take.new.roles n.given.entries c.take.new.given.entries c.take.new.log c.stops-stops.result runs c.in-Ok.ensures.node c.in-Ok.ensures.given c.in-Ok.ensures.log c.stops-stops.ensures

pub returns-in-Ok-clause-sends : goal.returns-in-Ok-clause-sends
returns-in-Ok-clause-sends g c =
    let n = c.self.inside in
    let runs : IsKept n.log n.roles n.given.entries None = subst (λ (s : Option Stopped). IsKept n.log n.roles n.given.entries s) c.in_default.is c.self.invariant in
    rw (← c.self.view_is) (step_sends n.log c.args.input n.roles c.take.new.roles n.given.entries c.take.new.given.entries c.in-Ok.outputs.sends runs c.in-Ok.ensures.sends)

pub returns-in-Ok-clause-ticket : goal.returns-in-Ok-clause-ticket
returns-in-Ok-clause-ticket g c = rw (← c.self.view_is) c.in-Ok.ensures.ticket

pub returns-in-Ok-clause-answers : goal.returns-in-Ok-clause-answers
returns-in-Ok-clause-answers g c goes =
    let n = c.self.inside in
    let runs : IsKept n.log n.roles n.given.entries None = subst (λ (s : Option Stopped). IsKept n.log n.roles n.given.entries s) c.in_default.is c.self.invariant in
    rw (← c.self.view_is, c.in_default.is) (step_answers n.log c.args.input n.roles c.take.new.roles n.given.entries c.take.new.given.entries c.stops-stops.result runs c.in-Ok.ensures.node c.stops-stops.ensures goes)

pub returns-in-Ok-clause-used : goal.returns-in-Ok-clause-used
returns-in-Ok-clause-used g c runs used = absurd (cc (c.in-Ok.ensures.used (ap (λ (v : NodeValue g.row.A.Denot). no_ticket_for v.log c.args.input) c.self.view_is ∙ used)))
