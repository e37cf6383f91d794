use Rattle.std.proofs.Common.{◌≡◌, ◌≤◌, true, map, take, vec_len, vec_capacity}
use Rattle.cluster.proofs.cluster.retire_all.Given as goal

-- at most one node taken away for each node so far, and theirs unless one was missing
abbrev pub invariant-loop-node : goal.invariant-loop-node
invariant-loop-node g l = record {
  few : vec_len l.retired ≤ l.node-index;
  room : vec_capacity l.retired ≡ vec_capacity l.initial.retired;
  all : l.is_whole ≡ true → map (λ log. log.opening.me) l.retired.items ≡ take l.node-index l.nodes;
}
