use Rattle.ballot.proofs.Count.{majorities_share}
use Rattle.ballot.proofs.laws.majorities_share_a_node.Goals as goal

pub returns : goal.returns
returns c = majorities_share
