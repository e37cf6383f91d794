use Rattle.std.proofs.Common.{◌≡◌, ◌++◌, length}
use Rattle.std.specs.List.{flat_map}
use Rattle.pop3_wire.specs.Stuffing.{wire_line, top_lines}
use Rattle.pop3_wire.proofs.stuffing.put_top_lines.Given as goal

-- what is written, and what the rest will bring
abbrev pub invariant-loop-line : goal.invariant-loop-line
invariant-loop-line g l =
    l.bytes.items ++ flat_map wire_line (top_lines l.count l.lines) ≡ l.initial.bytes.items ++ flat_map wire_line (top_lines l.count l.initial.lines)

abbrev pub decreases-loop-line : goal.decreases-loop-line
decreases-loop-line g l = length l.lines
