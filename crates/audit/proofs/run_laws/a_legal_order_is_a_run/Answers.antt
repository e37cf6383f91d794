use Rattle.audit.proofs.RunOrders.{order_run}
use Rattle.audit.proofs.run_laws.a_legal_order_is_a_run.Goals as goal

pub returns : goal.returns
returns g c = order_run
