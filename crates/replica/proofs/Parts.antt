-- Parts of what a replica does, by names.
use Rattle.std.proofs.Common.{ℕ, List, [], ◌∷◌, Option}
use Rattle.std.specs.Option.{option_map_or, option_flatten}
use Rattle.ballot.specs.Slots.{at_slot}
use Rattle.replica.specs.Replicas.{Rules, ReplicaState, performs, gives_way}

-- the answer of what is awaited
abbrev pub held : {R : Type 0} → Option (Option R) → Option R
held o = option_flatten o

-- what stands at a slot, if something does
abbrev pub in_slot : {X : Type 0} → ℕ → Option X → List (ℕ × X)
in_slot s o = option_map_or (λ x. (s, x) ∷ []) o []

-- the next slot is performed, if it is decided
abbrev pub performs_next : {C I R M : Type 0} → Rules C I R M → Option C → ReplicaState C I R M → ReplicaState C I R M
performs_next rules o r = option_map_or (λ c. performs rules c (gives_way rules c (at_slot r.slot_out r.proposals) r)) o r
