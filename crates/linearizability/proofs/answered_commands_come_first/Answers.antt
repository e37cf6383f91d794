use Rattle.linearizability.proofs.Runs.{answered_first}
use Rattle.linearizability.proofs.answered_commands_come_first.Goals as goal

pub returns : goal.returns
returns g c = answered_first
