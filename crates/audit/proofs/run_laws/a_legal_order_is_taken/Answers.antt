use Rattle.audit.proofs.RunOrders.{order_taken}
use Rattle.audit.proofs.run_laws.a_legal_order_is_taken.Goals as goal

pub returns : goal.returns
returns g c = order_taken
