use Rattle.std.proofs.Common.{◌≡◌, length, map, vec_len, vec_capacity, IfOk, All}
use Rattle.cluster.specs.Bests.{IsBestOf}
use Rattle.cluster.specs.Ends.{log_of}
use Rattle.cluster.specs.Members.{IsLogOf}
use Rattle.cluster.proofs.ended.end_all.Given as goal

-- the nodes so far, and the best of them
abbrev pub invariant-loop-node : goal.invariant-loop-node
invariant-loop-node g l = record {
  can_next : (goal.iterator-loop-node g).can_next l.node-iterator;
  finite : (goal.iterator-loop-node g).is_finite l.node-iterator;
  count : vec_len l.nodes ≡ length l.yielded;
  room : vec_capacity l.nodes ≡ vec_capacity l.initial.nodes;
  same : map log_of l.nodes.items ≡ l.yielded;
  own : All (λ log. IsLogOf g.D.Deployment.setup log.opening.me log) l.yielded;
  best : IfOk l.best (IsBestOf l.yielded);
}
