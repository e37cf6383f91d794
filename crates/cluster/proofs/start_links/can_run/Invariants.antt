use Rattle.std.proofs.Common.{◌≡◌, map, length}
use Rattle.cluster.specs.Starts.{can_run}
use Rattle.cluster.proofs.start_links.can_run.Given as goal

abbrev pub invariant-loop-me : goal.invariant-loop-me
invariant-loop-me g l = can_run l.setup (map (λ link. link.0) l.rest) ≡ can_run l.setup (map (λ link. link.0) l.links)

abbrev pub decreases-loop-me : goal.decreases-loop-me
decreases-loop-me g l = length l.rest
