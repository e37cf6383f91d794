use Rattle.std.proofs.Common.{ℕ, List, length}
use Rattle.peer_link.specs.Frames.{AreAdded}
use Rattle.peer_link.proofs.frames.add_frames.Given as goal

-- what is added of the rest is added of all
abbrev pub invariant-loop-envelope : goal.invariant-loop-envelope
invariant-loop-envelope l = (new : List ℕ) → AreAdded l.rest l.frames.items new → AreAdded l.envelopes l.fn.frames.items new

abbrev pub decreases-loop-envelope : goal.decreases-loop-envelope
decreases-loop-envelope l = length l.rest
