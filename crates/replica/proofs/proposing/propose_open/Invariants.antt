use Rattle.std.proofs.Common.{◌≡◌, ◌-◌, ◌++◌}
use Rattle.replica.specs.Replicas.{proposes_slots}
use Rattle.replica.proofs.proposing.propose_open.Given as goal

abbrev pub invariant-loop-turn : goal.invariant-loop-turn
invariant-loop-turn g l = record {
  replica : (proposes_slots {A = g.row.A.Denot} (l.turns - l.turn) l.state).after ≡ (proposes_slots {A = g.row.A.Denot} l.turns l.initial.state).after;
  sends : l.sends ++ (proposes_slots {A = g.row.A.Denot} (l.turns - l.turn) l.state).sends ≡ (proposes_slots l.turns l.initial.state).sends;
}
