use Rattle.acceptor.proofs.History.{kept_was_accepted, accepted_is_topped, one_for_each_slot}
use Rattle.acceptor.proofs.laws.acceptors_keep_the_highest.Goals as goal

pub returns : goal.returns
returns g c = record { was_accepted = kept_was_accepted; at_least_as_high = accepted_is_topped; one_for_a_slot = one_for_each_slot }
