use Rattle.std.proofs.Common.{◌≡◌, ◌++◌}
use Rattle.std.specs.List.{flat_map}
use Rattle.pop3_wire.specs.Stuffing.{wire_line}
use Rattle.pop3_wire.proofs.stuffing.put_lines.Given as goal

-- what is written, and what the rest will bring
abbrev pub invariant-loop-line : goal.invariant-loop-line
invariant-loop-line g l = l.bytes.items ++ flat_map wire_line l.line-iterator ≡ l.initial.bytes.items ++ flat_map wire_line l.initial.line-iterator
