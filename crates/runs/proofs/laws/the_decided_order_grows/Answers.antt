use Rattle.runs.proofs.Theorems.{order_prefix}
use Rattle.runs.proofs.laws.the_decided_order_grows.Goals as goal

pub returns : goal.returns
returns g c = order_prefix
