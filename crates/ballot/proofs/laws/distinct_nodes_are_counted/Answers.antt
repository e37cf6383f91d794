use Rattle.ballot.proofs.Count.{nodes_counted}
use Rattle.ballot.proofs.laws.distinct_nodes_are_counted.Goals as goal

pub returns : goal.returns
returns c = nodes_counted
