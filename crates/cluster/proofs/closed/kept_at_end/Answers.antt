use Rattle.std.proofs.Common.{Option, subst}
use Rattle.std.proofs.lemmas.Result.{IfOk-at_ok}
use Rattle.cluster.specs.Bests.{IsBestOf}
use Rattle.cluster.specs.declared.closed.Left.{Left}
use Rattle.cluster.proofs.Bests.{left_by_best}
use Rattle.cluster.proofs.closed.kept_at_end.Goals as goal

pub returns-in-Some : goal.returns-in-Some
returns-in-Some c = λ setup logs opened is.
    left_by_best setup logs c.in-Some.left
    (subst (λ (o : Option Left). IsBestOf logs o) c.in-Some.is (IfOk-at_ok (λ best. IsBestOf logs best) c.in_ok-left.was is))
