use Rattle.std.proofs.Common.{ℕ, List, length}
use Rattle.pop3_wire.proofs.WireForms.{IsReadTo}
use Rattle.pop3_wire.proofs.unstuffing.split_wire_form.Given as goal

-- the lines so far
abbrev pub invariant-loop-line : goal.invariant-loop-line
invariant-loop-line l = (lines : List (List ℕ)) × IsReadTo lines l.bytes l.left

abbrev pub decreases-loop-line : goal.decreases-loop-line
decreases-loop-line l = length l.left
