use Rattle.runs.proofs.Theorems.{one_command, stays_chosen}
use Rattle.runs.proofs.laws.agreement.Goals as goal

pub returns : goal.returns
returns g c = record { one = one_command; stays = stays_chosen }
