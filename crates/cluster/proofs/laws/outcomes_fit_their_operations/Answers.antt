use Rattle.cluster.proofs.Fitting.{outcome_fits}
use Rattle.cluster.proofs.laws.outcomes_fit_their_operations.Goals as goal

pub returns : goal.returns
returns g c = outcome_fits
