use Rattle.node.proofs.OwnOutcomes.{left_maildrop}
use Rattle.node.proofs.laws.logs_leave_lone_maildrops.Goals as goal

pub returns : goal.returns
returns g c = left_maildrop
