use Rattle.std.proofs.Common.{◌≡◌, ◌≤◌, ◌-◌, length, drop}
use Rattle.simulator.specs.Following.{IsCurrent, IsFollowed}
use Rattle.simulator.specs.Outcomes.{outcomes_told}
use Rattle.simulator.proofs.Telling.{text_before}
use Rattle.simulator.proofs.operations.write_outcomes.Given as goal

-- what is written, and what the rest will bring, is all that was to be written
abbrev pub invariant-loop-at : goal.invariant-loop-at
invariant-loop-at l = record {
  ids : l.operations.ids.items ≡ l.fn.operations.ids.items;
  bound : l.place ≤ length l.fn.operations.ids.items;
  followed : IsFollowed l.world.world l.fn.operations.ids.items l.operations.waiting;
  current : IsCurrent l.world.world l.fn.operations.ids.items l.operations.waiting;
  told : text_before l.report (outcomes_told (drop l.place l.fn.operations.ids.items) l.world.world) ≡ text_before l.fn.report (outcomes_told l.fn.operations.ids.items l.fn.world.world);
  service : l.world.world.service ≡ l.fn.world.world.service;
  crashed : l.world.crashed ≡ l.fn.world.crashed;
}

abbrev pub decreases-loop-at : goal.decreases-loop-at
decreases-loop-at l = length l.fn.operations.ids.items - l.place
