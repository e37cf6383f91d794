-- Sets of nodes.
use Rattle.std.proofs.Common.{◌≡◌, ◌≢◌, ℕ, List, [], ◌∷◌, ◌<◌, ◌≤◌, length, false, refl, sym, ◌∙◌, ⊎_elim, arith, eqb}
use Rattle.std.specs.List.{list_any}
use mathlib.Core.Bool.{◌||◌}
use Rattle.std.proofs.lemmas.Bool.{lt-ltb, le-leb, and_from, cases_eq, eq-eqb, ne_eqb}
use Rattle.ballot.specs.Nodes.{is_among, AreDistinct}
use Rattle.ballot.proofs.Count.{length-AreDistinct}

eqb_comm : (m n : ℕ) → eqb m n ≡ eqb n m
eqb_comm m n =
    ⊎_elim
    (λ (e : m ≡ n). eq-eqb m n e ∙ sym (eq-eqb n m (sym e)))
    (λ (ne : m ≢ n). ne_eqb m n ne ∙ sym (ne_eqb n m (λ e. ne (sym e))))
    (cases_eq m n)

-- the test as the code makes it
pub is_among-list_any : (node : ℕ) (ns : List ℕ) → list_any (λ n. eqb n node) ns ≡ is_among node ns
is_among-list_any node [] = refl
is_among-list_any node (n ∷ ns) = λ i. eqb_comm n node i || is_among-list_any node ns i

pub AreDistinct-new : (size node : ℕ) (ns : List ℕ) → 1 ≤ node → node ≤ size → is_among node ns ≡ false → AreDistinct size ns → AreDistinct size (node ∷ ns)
AreDistinct-new size node ns low high new h = (and_from _ _ (lt-ltb 0 node (omega arith)) (le-leb node size high), new, h)

-- a set that lacks a node has room for it
pub length-room : (size node : ℕ) (ns : List ℕ) → 1 ≤ node → node ≤ size → is_among node ns ≡ false → AreDistinct size ns → length ns < size
length-room size node ns low high new h =
    let l = length-AreDistinct size (node ∷ ns) (AreDistinct-new size node ns low high new h) in omega arith
