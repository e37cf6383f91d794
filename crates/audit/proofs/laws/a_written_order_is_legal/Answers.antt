use Rattle.audit.proofs.Fit.{order_written}
use Rattle.audit.proofs.laws.a_written_order_is_legal.Goals as goal

pub returns : goal.returns
returns g c = order_written
