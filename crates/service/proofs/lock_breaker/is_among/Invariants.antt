use Rattle.std.proofs.Common.{◌≡◌, length}
use Rattle.ballot.specs.Nodes as nodes
use Rattle.service.proofs.lock_breaker.is_among.Given as goal

-- the number isn't among those that were looked at
abbrev pub invariant-loop-other : goal.invariant-loop-other
invariant-loop-other l = nodes.is_among l.node l.rest ≡ nodes.is_among l.node l.up

abbrev pub decreases-loop-other : goal.decreases-loop-other
decreases-loop-other l = length l.rest
