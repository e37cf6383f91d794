use Rattle.std.proofs.Common.{◌≡◌, false, sym, ◌∙◌}
use Rattle.std.specs.Prelude.{is_some}
use Rattle.node.proofs.Taking.{taken_kept, taken_gone, taken_others}
use Rattle.node.proofs.node.Node.take_answer.Goals as goal

pub invariant_of-self : goal.invariant_of-self
invariant_of-self g c =
    let runs : is_some c.self.inside.stopped ≡ false = sym c.is_some.ensures ∙ c.if-is_some.false in
    taken_kept c.self.inside.log _ c.self.inside.roles c.take_answer.new.self c.self.inside.given.entries c.self.inside.stopped runs c.self.invariant c.take_answer.ensures.node

pub returns-clause-gone : goal.returns-clause-gone
returns-clause-gone g c =
    let runs : is_some c.self.inside.stopped ≡ false = sym c.is_some.ensures ∙ c.if-is_some.false in
    rw (← c.new.ensures) (taken_gone c.self.inside.log c.new.result c.self.inside.roles c.take_answer.new.self c.self.inside.given.entries c.self.inside.stopped runs c.self.invariant c.take_answer.ensures.node)

pub returns-clause-others : goal.returns-clause-others
returns-clause-others g c id unlike =
    let runs : is_some c.self.inside.stopped ≡ false = sym c.is_some.ensures ∙ c.if-is_some.false in
    rw (← c.self.view_is)
    (taken_others c.self.inside.log c.new.result c.self.inside.roles c.take_answer.new.self c.self.inside.given.entries c.self.inside.stopped runs c.self.invariant c.take_answer.ensures.node id (rw c.new.ensures unlike))
