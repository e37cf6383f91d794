use Rattle.runs.proofs.OneUser.{one_user}
use Rattle.runs.proofs.service_laws.one_user.Goals as goal

pub returns : goal.returns
returns g c = one_user
