use Rattle.node.proofs.Lasting.{last_is_new, last_stays, used_up}
use Rattle.node.proofs.laws.tickets_last.Goals as goal

pub returns : goal.returns
returns g c = record { last = last_is_new; others = last_stays; used = used_up }
