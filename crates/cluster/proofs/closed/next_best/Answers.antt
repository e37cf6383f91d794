use Rattle.std.proofs.Common.{IfOk, subst}
use Rattle.cluster.specs.Bests.{IsBestOf}
use Rattle.cluster.proofs.closed.next_best.Goals as goal

pub returns-then-is_known-clause-best : goal.returns-then-is_known-clause-best
returns-then-is_known-clause-best c = λ logs is.
    c.next_best_known-best.ensures.best logs (subst (λ best. IfOk best (IsBestOf logs)) c.in-Ok.is is)

pub returns-else-is_known-clause-best : goal.returns-else-is_known-clause-best
returns-else-is_known-clause-best c = λ logs is.
    c.next_best_by_log.ensures.best logs (subst (λ best. IfOk best (IsBestOf logs)) c.in-Ok.is is)
