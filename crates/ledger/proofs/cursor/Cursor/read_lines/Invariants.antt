use Rattle.std.proofs.Common.{◌≡◌, ◌-◌}
use Rattle.ledger.specs.Reading.{line_at, many_at}
use Rattle.ledger.proofs.Loops.{with_front}
use Rattle.ledger.proofs.cursor.Cursor.read_lines.Given as goal

abbrev pub invariant-loop : goal.invariant-loop
invariant-loop g l = with_front l.text.lines (many_at line_at (l.count - l.counter) l.self) ≡ many_at line_at l.count l.fn.self
