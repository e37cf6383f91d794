-- Worked examples of nodes that run together, and of nodes that wait in vain.
use Rattle.std.specs.Prelude.{◌≡◌, refl, ℕ, List, [], ◌∷◌, ◌++◌, replicate, true, false}
use Rattle.std.specs.declared.alloc.Global.{Global}
use Rattle.maildrop.specs.Kept.{KeptTable}
use Rattle.maildrop.specs.Limits.{Limits}
use Rattle.cluster.specs.Starts.{all_nodes, can_run}
use Rattle.cluster.specs.declared.setup.Setup.{Setup}
use Rattle.cluster.specs.declared.status.Status.{Status}
use Rattle.cluster.specs.Patience.{patience_of, new_patience, campaigns_at}

abbrev waits_at : ℕ → Status
waits_at slot_out = record { up = true; active = false; slot_out = slot_out; waiting = true }

abbrev idle_at : ℕ → Status
idle_at slot_out = record { up = true; active = false; slot_out = slot_out; waiting = false }

first_node : patience_of 1 ≡ 8
first_node = refl

last_node : patience_of 9 ≡ 40
last_node = refl

-- node 1 asks at its 8th tick in vain, and then at the 8th after that
asks_and_counts_anew : campaigns_at (new_patience 1) (replicate 16 (waits_at 1)) ≡ replicate 7 false ++ true ∷ replicate 7 false ++ true ∷ []
asks_and_counts_anew = refl

-- node 2 asks at its 12th
second_node : campaigns_at (new_patience 2) (replicate 12 (waits_at 1)) ≡ replicate 11 false ++ true ∷ []
second_node = refl

-- if a slot is decided the count begins anew: that tick isn't in vain
a_decided_slot : campaigns_at (new_patience 1) (replicate 7 (waits_at 1) ++ replicate 9 (waits_at 2)) ≡ replicate 15 false ++ true ∷ []
a_decided_slot = refl

-- if nothing is awaited it never asks
nothing_awaited : campaigns_at (new_patience 1) (replicate 7 (waits_at 1) ++ idle_at 1 ∷ replicate 8 (waits_at 1)) ≡ replicate 15 false ++ true ∷ []
nothing_awaited = refl

all_of_three : all_nodes 3 ≡ 1 ∷ 2 ∷ 3 ∷ []
all_of_three = refl

module _ (names : List (List ℕ)) (limits : Limits) (kept : KeptTable Global) where
  abbrev three_nodes : Setup
  three_nodes = record { cluster = 3; window = 10; names = names; limits = limits; kept = kept; keys = 10000 }

  two_of_three : can_run three_nodes (3 ∷ 1 ∷ []) ≡ true
  two_of_three = refl

  one_twice : can_run three_nodes (2 ∷ 1 ∷ 2 ∷ []) ≡ false
  one_twice = refl

  not_in_the_cluster : can_run three_nodes (4 ∷ []) ≡ false
  not_in_the_cluster = refl
