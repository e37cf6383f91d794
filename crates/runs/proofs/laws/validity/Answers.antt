use Rattle.runs.proofs.Theorems.{order_chosen, chosen_submitted}
use Rattle.runs.proofs.laws.validity.Goals as goal

pub returns : goal.returns
returns g c = record { ordered = order_chosen; chosen = chosen_submitted }
