use Rattle.linearizability.proofs.Runs.{linearized}
use Rattle.linearizability.proofs.runs_are_linearized.Goals as goal

pub returns : goal.returns
returns g c = linearized
