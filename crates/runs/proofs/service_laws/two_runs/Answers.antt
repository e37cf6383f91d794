use Rattle.runs.proofs.Projected.{comparable_runs}
use Rattle.runs.proofs.service_laws.two_runs.Goals as goal

pub returns : goal.returns
returns g c = comparable_runs
