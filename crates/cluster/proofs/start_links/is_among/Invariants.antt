use Rattle.std.proofs.Common.{◌≡◌, map, length}
use Rattle.ballot.specs.Nodes.{is_among}
use Rattle.cluster.proofs.start_links.is_among.Given as goal

abbrev pub invariant-loop-other : goal.invariant-loop-other
invariant-loop-other g l = is_among l.node (map (λ link. link.0) l.rest) ≡ is_among l.node (map (λ link. link.0) l.links)

abbrev pub decreases-loop-other : goal.decreases-loop-other
decreases-loop-other g l = length l.rest
