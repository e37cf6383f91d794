use Rattle.runs.proofs.Theorems.{told_chosen, performed_prefix}
use Rattle.runs.proofs.laws.learning.Goals as goal

pub returns : goal.returns
returns g c = record { told = told_chosen; performed = performed_prefix }
