-- The decided order.
use Rattle.std.specs.Prelude.{◌≡◌, refl, ℕ, zero, suc, ◌+◌, ◌-◌, List, [], ◌∷◌, length, if◌then◌else◌}
use Rattle.std.specs.Ordering.{nat_cmp}
use Rattle.ballot.specs.declared.message.Envelope.{Envelope}
use Rattle.replica.specs.Replicas.{Rules, rules_of, is_decided, first_slots, once}
use Rattle.runs.specs.Chosen.{chosen}

-- of n slots from s on the first at which nothing stands; the slot after them if something stands at each
abbrev pub first_gap : {X : Type 0} → ℕ → ℕ → List (ℕ × X) → ℕ
first_gap zero s es = s
first_gap (suc n) s es = if is_decided s es then first_gap n (s + 1) es else s

-- what stands at the slots 1, 2, .. up to the first at which nothing stands. A list can't fill more slots than it has entries
abbrev pub without_gap : {X : Type 0} → List (ℕ × X) → List (ℕ × X)
without_gap es = first_slots (first_gap (length es) 1 es - 1) es

-- the commands chosen in slots 1, 2, .. up to the first slot in which none is chosen, without those whose identity came before
abbrev pub decided_order : {C I R M A : Type 0} → Rules C I R M → ℕ → List (Envelope C A) → List (ℕ × C)
decided_order {C} rules size sent =
    let all : List (ℕ × C) = chosen size sent in
    once rules [] (first_slots (first_gap (length all) 1 all - 1) all)

-- a worked example: of the commands that stand at slots 1, 2 and 4 the third is after a gap
module _ {X : Type 0} (x y z : X) where
  behind_a_gap : without_gap ((4, z) ∷ (2, y) ∷ (1, x) ∷ (1, x) ∷ []) ≡ (1, x) ∷ (2, y) ∷ []
  behind_a_gap = refl

-- and of two commands of one identity the first counts: here a command is known by its second number
abbrev known_by : Rules (ℕ × ℕ) ℕ ℕ ℕ
known_by = rules_of (λ c. c.1) nat_cmp (λ m c. c.0) (λ m c. c.0)

first_counts : once known_by [] ((1, (5, 1)) ∷ (2, (5, 2)) ∷ (3, (6, 1)) ∷ []) ≡ (1, (5, 1)) ∷ (2, (5, 2)) ∷ []
first_counts = refl
