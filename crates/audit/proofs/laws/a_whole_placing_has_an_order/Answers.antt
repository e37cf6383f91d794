use Rattle.audit.proofs.Fit.{order_of_logs}
use Rattle.audit.proofs.laws.a_whole_placing_has_an_order.Goals as goal

pub returns : goal.returns
returns g c = order_of_logs
