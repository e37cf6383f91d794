use Rattle.proposer.proofs.Heard.{decisions_are_voted}
use Rattle.proposer.proofs.laws.commanders_decide_what_a_majority_voted.Goals as goal

pub returns : goal.returns
returns c = decisions_are_voted
