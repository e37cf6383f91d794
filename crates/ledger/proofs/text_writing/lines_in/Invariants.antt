use Rattle.std.proofs.Common.{◌≡◌, ◌+◌, ◌<◌, ◌^◌, length}
use Rattle.ledger.proofs.text_writing.lines_in.Given as goal

abbrev pub invariant-loop-count : goal.invariant-loop-count
invariant-loop-count g l = (l.count + length l.lines ≡ length l.text) × (length l.text < 2 ^ 63)

abbrev pub decreases-loop-count : goal.decreases-loop-count
decreases-loop-count g l = length l.lines
