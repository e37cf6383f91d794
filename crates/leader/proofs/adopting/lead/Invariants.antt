use Rattle.std.proofs.Common.{◌≡◌, ◌++◌}
use Rattle.std.specs.Prelude.{fold}
use Rattle.std.specs.List.{flat_map}
use Rattle.ballot.specs.Slots.{with_slot}
use Rattle.leader.proofs.Parts.{commanders_for, p2as}
use Rattle.leader.specs.Leaders.{commander_for, p2a}
use Rattle.leader.specs.States.{state_of}
use Rattle.leader.proofs.adopting.lead.Given as goal

-- what is left adds up to all
abbrev pub invariant-loop-slot : goal.invariant-loop-slot
invariant-loop-slot g l = record {
  commanders : fold (λ all e. with_slot e.0 (commander_for (state_of l.fn.state) e.0) all) l.commanders.entries l.slot-iterator ≡ commanders_for (state_of l.fn.state);
  sends : l.sends ++ flat_map (λ e. p2a (state_of l.fn.state) e.0 e.1) l.slot-iterator ≡ p2as (state_of l.fn.state);
}
