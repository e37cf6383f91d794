-- The names of accounts.
use Rattle.std.proofs.Common.{◌≡◌, ◌≢◌, ℕ, suc, ◌<◌, List, [], ◌∷◌, Bool, true, false, refl, arith, length, map}
use Rattle.std.specs.Prelude.{not, slice_index_or}
use Rattle.std.specs.List.{list_all}
use Rattle.std.specs.Str.{bytes_eq}
use Rattle.std.proofs.lemmas.Slice.Eq.{bytes_eq-Decides}
use Rattle.apop.specs.Accounts.{Account, name_of, HaveDifferentNames}
use Rattle.maildrop.specs.Name.{are_different}

-- names that no two accounts have
other_names : (name : List ℕ) (accounts : List Account) → ((k : ℕ) (d : Account) → k < length accounts → name ≢ (slice_index_or accounts k d).name) → list_all (λ other. not (bytes_eq name other)) (map name_of accounts) ≡ true
other_names name [] h = refl
other_names name (a ∷ accounts) h =
    let inside : 0 < length (a ∷ accounts) = omega arith in
    let no : bytes_eq name a.name ≡ false = go (bytes_eq name a.name) refl (h 0 a inside) in
    rw (no) (other_names name accounts (λ k d less. let next : suc k < length (a ∷ accounts) = omega (arith, less) in h (suc k) d next))
  where
    go : (t : Bool) → bytes_eq name a.name ≡ t → name ≢ a.name → t ≡ false
    go true q apart = absurd (apart ((bytes_eq-Decides name a.name).0 q))
    go false q apart = refl

pub different_names : (accounts : List Account) → HaveDifferentNames accounts → are_different (map name_of accounts) ≡ true
different_names [] h = refl
different_names (a ∷ accounts) h =
    rw (other_names a.name accounts (λ k d less. let next : suc k < length (a ∷ accounts) = omega (arith, less) in let first : 0 < suc k = omega arith in h 0 (suc k) d first next))
    (different_names accounts (λ i j d less inside. let next : suc j < length (a ∷ accounts) = omega (arith, inside) in let before : suc i < suc j = omega (arith, less) in h (suc i) (suc j) d before next))
