-- The fields of a state as contracts see it.
use Rattle.replica.specs.Replicas.{ReplicaState}
use Rattle.replica.specs.declared.state.State.TheInside.{Inside}

abbrev pub seen : {M A C R I : Type 0} → Inside M A C R I → ReplicaState C I R M
seen s = record { me = s.me; size = s.cluster; window = s.window; slot_in = s.slot_in; slot_out = s.slot_out; machine = s.machine; requests = s.requests.items; proposals = s.proposals.entries; decisions = s.decisions; performed = s.performed; awaited = s.awaited.entries }
