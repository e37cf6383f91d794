-- Nodes of a cluster, sets of them, and majorities. A set is the list of its nodes, the one added last first.
use Rattle.std.specs.Prelude.{◌≡◌, ℕ, zero, suc, ◌+◌, ◌*◌, ◌<◌, List, [], ◌∷◌, Bool, true, false, ◌==◌, ◌&&◌, ◌||◌, nat_lt, nat_le, if◌then◌else◌}

-- the nodes of a cluster are 1 to its size
abbrev pub in_cluster : ℕ → ℕ → Bool
in_cluster size node = nat_lt 0 node && nat_le node size

abbrev pub is_among : ℕ → List ℕ → Bool
is_among node [] = false
is_among node (n ∷ ns) = node == n || is_among node ns

-- nodes of the cluster, no one twice
abbrev pub AreDistinct : ℕ → List ℕ → Type 0
AreDistinct size [] = Unit {0}
AreDistinct size (n ∷ ns) = (in_cluster size n ≡ true) × (is_among n ns ≡ false) × AreDistinct size ns

-- how many of the nodes 1 to n pass the test
abbrev pub count_to : ℕ → (ℕ → Bool) → ℕ
count_to zero test = 0
count_to (suc n) test = (if test (suc n) then 1 else 0) + count_to n test

-- more than half of the cluster's nodes pass the test
abbrev pub IsMajority : ℕ → (ℕ → Bool) → Type 0
IsMajority size test = size < 2 * count_to size test
