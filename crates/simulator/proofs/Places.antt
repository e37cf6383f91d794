-- The places of a list at which something passes.
use Rattle.std.proofs.Common.{◌≡◌, ◌⊎◌, inl, inr, ℕ, zero, suc, ◌+◌, ◌<◌, ◌≤◌, List, [], ◌∷◌, ◌++◌, Bool, true, false, Some, None, refl, sym, ap, ◌∙◌, subst, arith, cond, drop, set, length}
use Rattle.std.specs.Prelude.{slice_get, nat_lt, not}
use Rattle.std.specs.List.{position, position_or_len}
use Rattle.std.proofs.lemmas.Bool.{ltb-true, ltb-false, lt-ltb, le-ltb}
use Rattle.std.proofs.lemmas.List.{length-drop}

module _ {X : Type 0} where
  pub set_or : (xs : List X) (place k : ℕ) (x y : X) → slice_get (set xs place x) k ≡ Some y → (x ≡ y) ⊎ (slice_get xs k ≡ Some y)
  set_or [] place k x y e = inr e
  set_or (z ∷ xs) zero zero x y e = inl cc
  set_or (z ∷ xs) zero (suc k) x y e = inr e
  set_or (z ∷ xs) (suc place) zero x y e = inr e
  set_or (z ∷ xs) (suc place) (suc k) x y e = set_or xs place k x y e

  pub last_or : (xs : List X) (k : ℕ) (x y : X) → slice_get (xs ++ x ∷ []) k ≡ Some y → (x ≡ y) ⊎ (slice_get xs k ≡ Some y)
  last_or [] zero x y e = inl cc
  last_or [] (suc k) x y e = inr e
  last_or (z ∷ xs) zero x y e = inr e
  last_or (z ∷ xs) (suc k) x y e = last_or xs k x y e

  -- what stands where the first one was found
  at_place : (test : X → Bool) (xs : List X) (k : ℕ) → position_or_len test xs ≡ k → k < length xs → (x : X) × (slice_get xs k ≡ Some x) × (test x ≡ true)
  at_place test [] k e lt = absurd (omega arith)
  at_place test (x ∷ xs) k e lt =
      go (test x) refl e (λ low. at_place test xs (position_or_len test xs) refl low)
    where
      go : (t : Bool) → test x ≡ t → cond (not t) (1 + position_or_len test xs) 0 ≡ k
          → (position_or_len test xs < length xs → (y : X) × (slice_get xs (position_or_len test xs) ≡ Some y) × (test y ≡ true)) → (y : X) × (slice_get (x ∷ xs) k ≡ Some y) × (test y ≡ true)
      go true is here rest = (x, ap (slice_get (x ∷ xs)) (sym here), is)
      go false is here rest =
          let next : suc (position_or_len test xs) ≡ k = omega (arith, here) in
          let found = rest (omega (arith, next, lt)) in
          (found.0, subst (λ n. slice_get (x ∷ xs) n ≡ Some found.0) next found.1, found.2)

  pub found_at : (test : X → Bool) (xs : List X) (k : ℕ) → position test xs ≡ Some k → (x : X) × (slice_get xs k ≡ Some x) × (test x ≡ true)
  found_at test xs k e =
      go (nat_lt (position_or_len test xs) (length xs)) refl e
    where
      go : (t : Bool) → nat_lt (position_or_len test xs) (length xs) ≡ t → cond t (Some (position_or_len test xs)) None ≡ Some k → (x : X) × (slice_get xs k ≡ Some x) × (test x ≡ true)
      go true lt here = let same : position_or_len test xs ≡ k = cc here in at_place test xs k same (subst (λ n. n < length xs) same (ltb-true (position_or_len test xs) (length xs) lt))
      go false lt here = absurd (cc here)

  -- if none of the first ones passes
  behind_place : (test : X → Bool) (xs : List X) (from : ℕ) → from ≤ length xs → ((k : ℕ) (x : X) → k < from → slice_get xs k ≡ Some x → test x ≡ false)
      → position_or_len test xs ≡ from + position_or_len test (drop from xs)
  behind_place test xs zero le none = let n = position_or_len test xs in let same : n ≡ 0 + n = omega arith in same
  behind_place test [] (suc from) le none = absurd (omega arith)
  behind_place test (x ∷ xs) (suc from) le none =
      let rest = behind_place test xs from (omega arith) (λ k y lt at. none (suc k) y (omega arith) at) in
      let n = position_or_len test (drop from xs) in
      rw (none zero x (omega arith) refl) (ap (λ m. 1 + m) rest ∙ (let e : 1 + (from + n) ≡ suc from + n = omega arith in e))

  pub told : (test : X → Bool) (xs : List X) (k : ℕ) → position test xs ≡ Some k → (position_or_len test xs ≡ k) × (k < length xs)
  told test xs k e =
      go (nat_lt (position_or_len test xs) (length xs)) refl e
    where
      go : (t : Bool) → nat_lt (position_or_len test xs) (length xs) ≡ t → cond t (Some (position_or_len test xs)) None ≡ Some k → (position_or_len test xs ≡ k) × (k < length xs)
      go true lt here = let same : position_or_len test xs ≡ k = cc here in (same, subst (λ n. n < length xs) same (ltb-true (position_or_len test xs) (length xs) lt))
      go false lt here = absurd (cc here)

  pub untold : (test : X → Bool) (xs : List X) → position test xs ≡ None → length xs ≤ position_or_len test xs
  untold test xs e =
      go (nat_lt (position_or_len test xs) (length xs)) refl e
    where
      go : (t : Bool) → nat_lt (position_or_len test xs) (length xs) ≡ t → cond t (Some (position_or_len test xs)) None ≡ None → length xs ≤ position_or_len test xs
      go true lt here = absurd (cc here)
      go false lt here = let no = ltb-false (position_or_len test xs) (length xs) lt in omega (arith, no)

  pub found_behind : (test : X → Bool) (xs : List X) (from place : ℕ) → from ≤ length xs → ((k : ℕ) (x : X) → k < from → slice_get xs k ≡ Some x → test x ≡ false)
      → position test (drop from xs) ≡ Some place → position test xs ≡ Some (from + place)
  found_behind test xs from place le none e =
      let there = told test (drop from xs) place e in
      let whole : position_or_len test xs ≡ from + place = behind_place test xs from le none ∙ ap (λ n. from + n) there.0 in
      let within : from + place < length xs = omega (arith, there.1, length-drop from xs, le) in
      ap (λ n. cond (nat_lt n (length xs)) (Some n) None) whole ∙ rw (lt-ltb (from + place) (length xs) within) refl

  pub none_behind : (test : X → Bool) (xs : List X) (from : ℕ) → from ≤ length xs → ((k : ℕ) (x : X) → k < from → slice_get xs k ≡ Some x → test x ≡ false)
      → position test (drop from xs) ≡ None → position test xs ≡ None
  none_behind test xs from le none e =
      let past = untold test (drop from xs) e in
      let n = position_or_len test xs in
      let whole : n ≡ from + position_or_len test (drop from xs) = behind_place test xs from le none in
      let beyond : length xs ≤ n = omega (arith, past, whole, length-drop from xs, le) in
      rw (le-ltb n (length xs) beyond) refl

  -- what stands before the first one
  pub earlier : (test : X → Bool) (xs : List X) (j : ℕ) (x : X) → j < position_or_len test xs → slice_get xs j ≡ Some x → test x ≡ false
  earlier test [] j x lt e = absurd (cc e)
  earlier test (y ∷ xs) zero x lt e =
      go (test y) refl lt
    where
      go : (t : Bool) → test y ≡ t → 0 < cond (not t) (1 + position_or_len test xs) 0 → test x ≡ false
      go true is low = absurd (omega (arith, low))
      go false is low = let same : y ≡ x = cc e in ap test (sym same) ∙ is
  earlier test (y ∷ xs) (suc j) x lt e =
      go (test y) lt (λ low. earlier test xs j x low e)
    where
      go : (t : Bool) → suc j < cond (not t) (1 + position_or_len test xs) 0 → (j < position_or_len test xs → test x ≡ false) → test x ≡ false
      go true low rest = absurd (omega (arith, low))
      go false low rest = rest (omega (arith, low))
