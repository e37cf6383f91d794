use Rattle.std.proofs.Common.{◌≡◌, map}
use Rattle.cluster.specs.Starts.{all_nodes}
use Rattle.service.proofs.service_nodes.all_links.Given as goal

abbrev pub invariant-loop-before : goal.invariant-loop-before
invariant-loop-before g l = map (λ link. link.0) l.links.items ≡ all_nodes l.before
