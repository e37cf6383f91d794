use Rattle.node.proofs.OwnOutcomes.{answered_outcome}
use Rattle.node.proofs.laws.answers_are_outcomes.Goals as goal

pub returns : goal.returns
returns g c = answered_outcome
