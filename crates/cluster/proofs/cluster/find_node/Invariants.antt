use Rattle.std.proofs.Common.{◌≡◌, length}
use Rattle.ballot.specs.Nodes.{is_among}
use Rattle.cluster.proofs.cluster.find_node.Given as goal

abbrev pub invariant-loop-handle : goal.invariant-loop-handle
invariant-loop-handle g l = is_among l.node l.rest ≡ is_among l.node l.nodes

abbrev pub decreases-loop-handle : goal.decreases-loop-handle
decreases-loop-handle g l = length l.rest
