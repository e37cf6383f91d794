use Rattle.node.proofs.Answering.{answered_submitted, answered_here}
use Rattle.node.proofs.laws.answers_are_of_submits.Goals as goal

pub returns : goal.returns
returns g c = record { submitted = answered_submitted; own = answered_here }
