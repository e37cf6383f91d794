use Rattle.runs.proofs.Outcomes.{answer_own}
use Rattle.runs.proofs.laws.answers_are_of_own_commands.Goals as goal

pub returns : goal.returns
returns g c = answer_own
