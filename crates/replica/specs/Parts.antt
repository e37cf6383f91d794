-- Parts of a replica's calls: what contracts say of functions that do a part.
use Rattle.std.specs.Prelude.{ℕ, List, [], ◌∷◌, ◌++◌, if◌then◌else◌}
use Rattle.ballot.specs.Slots.{with_slot}
use Rattle.replica.specs.Replicas.{ReplicaState, is_decided}

-- x at its slot, unless something stands there
abbrev pub with_decided : {X : Type 0} → ℕ → X → List (ℕ × X) → List (ℕ × X)
with_decided s x es = if is_decided s es then es else with_slot s x es

module _ {C I R M : Type 0} where
  -- the command waits after the other requests
  abbrev pub with_request : C → ReplicaState C I R M → ReplicaState C I R M
  with_request c r = record r { requests = r.requests ++ c ∷ [] }

  -- the decision is kept, unless its slot has one
  abbrev pub with_decision : ℕ → C → ReplicaState C I R M → ReplicaState C I R M
  with_decision s c r = record r { decisions = with_decided s c r.decisions }
