use Rattle.acceptor.proofs.Kept.{accepted_cases, taken_held, held_stays}
use Rattle.acceptor.proofs.laws.what_is_kept_stays_or_is_topped.Goals as goal

pub returns : goal.returns
returns g c = record { old_or_new = accepted_cases; new = taken_held; old = held_stays }
