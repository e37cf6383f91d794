use Rattle.proposer.proofs.Heard.{commanders_count}
use Rattle.proposer.proofs.laws.commanders_count_votes.Goals as goal

pub returns : goal.returns
returns c = commanders_count
