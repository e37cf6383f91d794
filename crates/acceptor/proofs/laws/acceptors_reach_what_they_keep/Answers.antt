use Rattle.acceptor.proofs.Kept.{reached_new, reached_p1a, reached_p2a}
use Rattle.acceptor.proofs.laws.acceptors_reach_what_they_keep.Goals as goal

pub returns : goal.returns
returns g c = record { at_first = reached_new; after_p1a = reached_p1a; after_p2a = reached_p2a }
