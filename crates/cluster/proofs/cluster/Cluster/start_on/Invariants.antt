use Rattle.std.proofs.Common.{◌≡◌, Ok}
use Rattle.std.specs.List.{AllZip}
use Rattle.cluster.proofs.cluster.Cluster.start_on.Given as goal

-- the nodes so far have opened, and are here
abbrev pub invariant-loop-node : goal.invariant-loop-node
invariant-loop-node g l = record {
  can_next : (goal.iterator-loop-node g).can_next l.node-iterator;
  finite : (goal.iterator-loop-node g).is_finite l.node-iterator;
  so_far : AllZip (λ node me. node ≡ Ok me) l.yielded l.cluster;
}
