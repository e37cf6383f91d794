use Rattle.node.proofs.Answering.{answered_stays}
use Rattle.node.proofs.laws.answers_stay.Goals as goal

pub returns : goal.returns
returns g c = answered_stays
