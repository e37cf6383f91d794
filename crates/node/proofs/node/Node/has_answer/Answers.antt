use Rattle.std.proofs.Common.{◌≡◌, true, arith}
use Rattle.std.specs.Prelude.{is_none}
use Rattle.node.proofs.Showing.{shown_answer, runs_on}
use Rattle.node.proofs.node.Node.has_answer.Goals as goal

pub returns-then-is_none-clause-value : goal.returns-then-is_none-clause-value
returns-then-is_none-clause-value g c =
    let runs : is_none c.self.inside.stopped ≡ true = grind (arith, c.is_none.ensures, c.if-is_none.true) in
    rw (← c.self.view_is, ← c.new.ensures)
    (shown_answer c.self.inside.log c.self.inside.roles c.self.inside.given.entries c.self.inside.stopped c.new.result c.has_answer.result runs c.self.invariant c.has_answer.ensures)

pub returns-then-is_none-clause-stopped : goal.returns-then-is_none-clause-stopped
returns-then-is_none-clause-stopped g c =
    let runs : is_none c.self.inside.stopped ≡ true = grind (arith, c.is_none.ensures, c.if-is_none.true) in
    rw (← c.self.view_is) (runs_on _ c.self.inside.stopped runs)
