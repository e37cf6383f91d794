use Rattle.std.proofs.Common.{◌≡◌}
use Rattle.cluster.specs.Starts.{all_nodes}
use Rattle.peer_link.proofs.link.new_peers.Given as goal

abbrev pub invariant-loop-before : goal.invariant-loop-before
invariant-loop-before l = l.peers.items ≡ all_nodes l.before
