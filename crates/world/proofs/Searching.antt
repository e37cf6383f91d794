-- The first and the last of a list that pass.
use Rattle.std.proofs.Common.{◌≡◌, ℕ, zero, suc, ◌+◌, ◌-◌, ◌<◌, ◌≤◌, List, [], ◌∷◌, Bool, true, false, Some, None, refl, sym, ap, ◌∙◌, arith, cond, drop, length, map}
use Rattle.std.specs.Prelude.{slice_get, nat_lt}
use Rattle.std.specs.List.{position, position_or_len, find}
use Rattle.std.specs.Option.{option_map}
use Rattle.std.proofs.lemmas.Option.{slice_get_within}
use Rattle.std.proofs.lemmas.Bool.{lt-ltb, le-ltb}
use Rattle.runs.specs.Worlds.{last_position}

some_same : {X : Type 0} (a b : X) → Some a ≡ Some b → a ≡ b
some_same a b e = cc

module _ {X : Type 0} where
  pub there : (xs : List X) (k : ℕ) → k < length xs → (x : X) × (slice_get xs k ≡ Some x)
  there [] k lt = absurd (omega arith)
  there (x ∷ xs) zero lt = (x, refl)
  there (x ∷ xs) (suc k) lt = there xs k (omega arith)

  pub got_behind : (from : ℕ) (xs : List X) (k : ℕ) → slice_get (drop from xs) k ≡ slice_get xs (from + k)
  got_behind zero xs k = let here : k ≡ 0 + k = omega arith in ap (slice_get xs) here
  got_behind (suc from) [] k = refl
  got_behind (suc from) (x ∷ xs) k = let next : suc (from + k) ≡ suc from + k = omega arith in got_behind from xs k ∙ ap (slice_get (x ∷ xs)) next

  place_found : (test : X → Bool) (xs : List X) (k : ℕ) (x : X) → ((j : ℕ) (y : X) → j < k → slice_get xs j ≡ Some y → test y ≡ false) → slice_get xs k ≡ Some x → test x ≡ true
      → position_or_len test xs ≡ k
  place_found test [] k x none at is = absurd (cc)
  place_found test (y ∷ xs) zero x none at is = let passes : test y ≡ true = ap test (some_same y x at) ∙ is in rw (passes) refl
  place_found test (y ∷ xs) (suc k) x none at is =
      let next : 1 + k ≡ suc k = omega arith in
      rw (none zero y (omega arith) refl) (ap (λ n. 1 + n) (place_found test xs k x (λ j z lt e. none (suc j) z (omega arith) e) at is) ∙ next)

  place_none : (test : X → Bool) (xs : List X) → ((j : ℕ) (y : X) → slice_get xs j ≡ Some y → test y ≡ false) → position_or_len test xs ≡ length xs
  place_none test [] none = refl
  place_none test (y ∷ xs) none =
      let next : 1 + length xs ≡ suc (length xs) = omega arith in
      rw (none zero y refl) (ap (λ n. 1 + n) (place_none test xs (λ j z e. none (suc j) z e)) ∙ next)

  first_found : (test : X → Bool) (xs : List X) (k : ℕ) (x : X) → ((j : ℕ) (y : X) → j < k → slice_get xs j ≡ Some y → test y ≡ false) → slice_get xs k ≡ Some x → test x ≡ true
      → position test xs ≡ Some k
  first_found test xs k x none at is =
      let place = place_found test xs k x none at is in
      let within = lt-ltb k (length xs) (slice_get_within xs k x at) in
      ap (λ n. cond (nat_lt n (length xs)) (Some n) None) place ∙ rw (within) refl

  first_none : (test : X → Bool) (xs : List X) → ((j : ℕ) (y : X) → slice_get xs j ≡ Some y → test y ≡ false) → position test xs ≡ None
  first_none test xs none =
      let place = place_none test xs none in
      let past : nat_lt (length xs) (length xs) ≡ false = le-ltb (length xs) (length xs) (omega arith) in
      ap (λ n. cond (nat_lt n (length xs)) (Some n) None) place ∙ rw (past) refl

  last_none : (test : X → Bool) (xs : List X) → ((j : ℕ) (y : X) → slice_get xs j ≡ Some y → test y ≡ false) → last_position test xs ≡ None
  last_none test [] none = refl
  last_none test (y ∷ xs) none = rw (none zero y refl, last_none test xs (λ j z e. none (suc j) z e)) refl

  last_found : (test : X → Bool) (xs : List X) (k : ℕ) (x : X) → ((j : ℕ) (y : X) → k < j → slice_get xs j ≡ Some y → test y ≡ false) → slice_get xs k ≡ Some x → test x ≡ true
      → last_position test xs ≡ Some k
  last_found test [] k x none at is = absurd (cc)
  last_found test (y ∷ xs) zero x none at is =
      let passes : test y ≡ true = ap test (some_same y x at) ∙ is in
      rw (last_none test xs (λ j z e. none (suc j) z (omega arith) e), passes) refl
  last_found test (y ∷ xs) (suc k) x none at is =
      rw (last_found test xs k x (λ j z lt e. none (suc j) z (omega arith) e) at is) (ap Some (omega arith))

  -- the same from a place on
  pub first_from : (test : X → Bool) (xs : List X) (from place : ℕ) (x : X) → from ≤ place → ((k : ℕ) (y : X) → from ≤ k → k < place → slice_get xs k ≡ Some y → test y ≡ false)
      → slice_get xs place ≡ Some x → test x ≡ true → option_map (λ k. from + k) (position test (drop from xs)) ≡ Some place
  first_from test xs from place x le none at is =
      let back : from + (place - from) ≡ place = omega arith in
      ap (option_map (λ k. from + k)) (first_found test (drop from xs) (place - from) x
      (λ j y lt e. none (from + j) y (omega arith) (omega arith) (sym (got_behind from xs j) ∙ e))
      (got_behind from xs (place - from) ∙ ap (slice_get xs) back ∙ at) is)
      ∙ ap Some back

  pub none_from : (test : X → Bool) (xs : List X) (from : ℕ) → ((k : ℕ) (y : X) → from ≤ k → slice_get xs k ≡ Some y → test y ≡ false)
      → option_map (λ k. from + k) (position test (drop from xs)) ≡ None
  none_from test xs from none =
      ap (option_map (λ k. from + k)) (first_none test (drop from xs) (λ j y e. none (from + j) y (omega arith) (sym (got_behind from xs j) ∙ e)))

  pub last_from : (test : X → Bool) (xs : List X) (from place : ℕ) (x : X) → from ≤ place → ((k : ℕ) (y : X) → place < k → slice_get xs k ≡ Some y → test y ≡ false)
      → slice_get xs place ≡ Some x → test x ≡ true → option_map (λ k. from + k) (last_position test (drop from xs)) ≡ Some place
  last_from test xs from place x le none at is =
      let back : from + (place - from) ≡ place = omega arith in
      ap (option_map (λ k. from + k)) (last_found test (drop from xs) (place - from) x
      (λ j y lt e. none (from + j) y (omega arith) (sym (got_behind from xs j) ∙ e))
      (got_behind from xs (place - from) ∙ ap (slice_get xs) back ∙ at) is)
      ∙ ap Some back

  pub no_last_from : (test : X → Bool) (xs : List X) (from : ℕ) → ((k : ℕ) (y : X) → from ≤ k → slice_get xs k ≡ Some y → test y ≡ false)
      → option_map (λ k. from + k) (last_position test (drop from xs)) ≡ None
  no_last_from test xs from none =
      ap (option_map (λ k. from + k)) (last_none test (drop from xs) (λ j y e. none (from + j) y (omega arith) (sym (got_behind from xs j) ∙ e)))

module _ {X Y : Type 0} where
  -- the first that passes, of what a list becomes
  pub find_none : (f : X → Y) (test : Y → Bool) (xs : List X) → ((j : ℕ) (y : X) → j < length xs → slice_get xs j ≡ Some y → test (f y) ≡ false) → find test (map f xs) ≡ None
  find_none f test [] none = refl
  find_none f test (y ∷ xs) none = rw (none zero y (omega arith) refl) (find_none f test xs (λ j z lt e. none (suc j) z (omega arith) e))

  pub find_found : (f : X → Y) (test : Y → Bool) (xs : List X) (k : ℕ) (x : X) → ((j : ℕ) (y : X) → j < k → slice_get xs j ≡ Some y → test (f y) ≡ false)
      → slice_get xs k ≡ Some x → test (f x) ≡ true → find test (map f xs) ≡ Some (f x)
  find_found f test [] k x none at is = absurd (cc)
  find_found f test (y ∷ xs) zero x none at is =
      let same = some_same y x at in
      let passes : test (f y) ≡ true = ap (λ z. test (f z)) same ∙ is in
      rw (passes) (ap (λ z. Some (f z)) same)
  find_found f test (y ∷ xs) (suc k) x none at is = rw (none zero y (omega arith) refl) (find_found f test xs k x (λ j z lt e. none (suc j) z (omega arith) e) at is)
