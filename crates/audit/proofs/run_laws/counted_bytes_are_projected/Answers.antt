use Rattle.audit.proofs.RunOrders.{bytes_alone}
use Rattle.audit.proofs.run_laws.counted_bytes_are_projected.Goals as goal

pub returns : goal.returns
returns g c = bytes_alone
