use Rattle.node.proofs.Fronts.{front_told}
use Rattle.node.proofs.laws.nodes_perform_the_front.Goals as goal

pub returns : goal.returns
returns g c = front_told
