use Rattle.runs.proofs.Fit.{every_answer_fits}
use Rattle.runs.proofs.service_laws.answers_fit.Goals as goal

pub returns : goal.returns
returns g c = every_answer_fits
