use Rattle.runs.proofs.Unchanged.{refused_same}
use Rattle.runs.proofs.service_laws.refused_changes_nothing.Goals as goal

pub returns : goal.returns
returns g c config service event reason = refused_same config service reason event
