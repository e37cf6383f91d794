use Rattle.std.proofs.Common.{◌≡◌, ◌++◌}
use Rattle.std.specs.List.{flat_map}
use Rattle.replica.specs.Replicas.{proposal_again}
use Rattle.replica.proofs.proposing.send_again.Given as goal

abbrev pub invariant-loop-slot : goal.invariant-loop-slot
invariant-loop-slot g l =
    l.sends ++ flat_map (proposal_again {A = g.row.A.Denot} l.state) l.slot-iterator ≡ flat_map (proposal_again {A = g.row.A.Denot} l.state) l.state.proposals
