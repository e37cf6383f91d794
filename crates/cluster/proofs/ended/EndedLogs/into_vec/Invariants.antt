use Rattle.std.proofs.Common.{◌≡◌, length, map, vec_len, vec_capacity}
use Rattle.cluster.specs.Ends.{log_of}
use Rattle.cluster.proofs.ended.EndedLogs.into_vec.Given as goal

-- the logs of the nodes so far
abbrev pub invariant-loop-node : goal.invariant-loop-node
invariant-loop-node l = record {
  can_next : (goal.iterator-loop-node).can_next l.node-iterator;
  finite : (goal.iterator-loop-node).is_finite l.node-iterator;
  count : vec_len l.logs ≡ length l.yielded;
  room : vec_capacity l.logs ≡ vec_capacity l.initial.logs;
  same : l.logs.items ≡ map log_of l.yielded;
}
