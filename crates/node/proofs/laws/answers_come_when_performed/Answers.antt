use Rattle.node.proofs.News.{answered_performed, answered_new}
use Rattle.node.proofs.laws.answers_come_when_performed.Goals as goal

pub returns : goal.returns
returns g c = record { performed = answered_performed; new = answered_new }
