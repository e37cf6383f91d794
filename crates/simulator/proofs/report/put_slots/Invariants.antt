use Rattle.std.proofs.Common.{◌≡◌, ◌++◌, ◌≤◌, drop, length, take}
use Rattle.simulator.specs.Reports.{slot_lines}
use Rattle.simulator.proofs.report.put_slots.Given as goal

-- what is written, and what the rest will bring, is all that was to be written; what stood at the start is the beginning of it
abbrev pub invariant-loop-slot : goal.invariant-loop-slot
invariant-loop-slot l =
    (l.out.items ++ slot_lines (drop l.slot-index l.performed) ≡ l.fn.out.items ++ slot_lines l.performed)
    × (l.start ≤ length l.out.items)
    × (take l.start l.out.items ≡ take l.start l.fn.out.items)
