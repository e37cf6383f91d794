use Rattle.std.proofs.Common.{◌≡◌, length}
use Rattle.pop3_wire.specs.Commands.{without_trailing_spaces}
use Rattle.pop3_wire.proofs.parsing.without_trailing_spaces.Given as goal

abbrev pub invariant-loop-last : goal.invariant-loop-last
invariant-loop-last l = without_trailing_spaces l.bytes ≡ without_trailing_spaces l.left

abbrev pub decreases-loop-last : goal.decreases-loop-last
decreases-loop-last l = length l.left
