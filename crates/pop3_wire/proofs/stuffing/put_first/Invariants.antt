use Rattle.std.proofs.Common.{◌≡◌, ◌++◌, take}
use Rattle.std.specs.List.{flat_map}
use Rattle.pop3_wire.specs.Stuffing.{wire_line}
use Rattle.pop3_wire.proofs.stuffing.put_first.Given as goal

-- what is written, and what the rest will bring
abbrev pub invariant-loop-left : goal.invariant-loop-left
invariant-loop-left g l =
    l.bytes.items ++ flat_map wire_line (take l.left l.lines) ≡ l.initial.bytes.items ++ flat_map wire_line (take l.count l.initial.lines)

abbrev pub decreases-loop-left : goal.decreases-loop-left
decreases-loop-left g l = l.left
