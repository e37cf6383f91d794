use Rattle.node.proofs.Awaiting.{answered_then}
use Rattle.node.proofs.laws.performed_commands_are_answered.Goals as goal

pub returns : goal.returns
returns g c = answered_then
