use Rattle.runs.proofs.Projected.{every_projected}
use Rattle.runs.proofs.service_laws.projection.Goals as goal

pub returns : goal.returns
returns g c = every_projected
