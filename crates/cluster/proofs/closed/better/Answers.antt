use Rattle.std.proofs.Common.{Option, subst, arith}
use Rattle.cluster.specs.Bests.{IsBestOf}
use Rattle.cluster.specs.declared.closed.Left.{Left}
use Rattle.cluster.proofs.Bests.{newer_best, older_best}
use Rattle.cluster.proofs.closed.better.Goals as goal

pub returns-then-left-best : goal.returns-then-left-best
returns-then-left-best c = λ logs log is end.
    older_best logs log c.in-Some.best (subst (λ (o : Option Left). IsBestOf logs o) c.in-Some.is is) (grind (arith, end.performed, c.if-left-best.true))

pub returns-else-left-best : goal.returns-else-left-best
returns-else-left-best c = λ logs log is end.
    newer_best logs log c.in-Some.best c.args.left (subst (λ (o : Option Left). IsBestOf logs o) c.in-Some.is is) end (grind (arith, c.if-left-best.false))
