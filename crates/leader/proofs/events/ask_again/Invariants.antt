use Rattle.std.proofs.Common.{◌≡◌, ◌++◌}
use Rattle.leader.specs.Parts.{p2as_again}
use Rattle.leader.specs.States.{state_of}
use Rattle.leader.proofs.events.ask_again.Given as goal

abbrev pub invariant-loop-slot : goal.invariant-loop-slot
invariant-loop-slot g l =
    l.sends ++ p2as_again (state_of l.state) l.slot-iterator ≡ p2as_again (state_of l.state) l.commanders.entries
