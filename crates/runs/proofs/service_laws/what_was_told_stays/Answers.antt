use Rattle.runs.proofs.Later.{clients_stay}
use Rattle.runs.proofs.service_laws.what_was_told_stays.Goals as goal

pub returns : goal.returns
returns g c = clients_stay
