-- Which segments are left when old ones are removed one by one.
use Rattle.std.proofs.Common.{◌≡◌, ℕ, suc, ◌+◌, ◌<◌, ◌≤◌, Bool, true, false, cond, not, ◌&&◌, ◌||◌, List, [], ◌∷◌, ◌++◌, length, take, get_or, refl, sym, ap, ◌∙◌, arith}
use Rattle.std.specs.Prelude.{nat_lt, ◌==◌, if◌then◌else◌}
use Rattle.std.specs.List.{count_by, filter, list_any}
use Rattle.std.specs.List.Sorted.{IsPermutation}
use Rattle.std.proofs.lemmas.Bool.{eq-eqb, le-ltb, lt-ltb, or_left, or_right}
use Rattle.std.proofs.lemmas.Bool.Decides.{nat_tests}
use Rattle.std.proofs.lemmas.List.{take_more}
use Rattle.std.proofs.lemmas.List.Elements.{filter_agree}
use Rattle.std.proofs.lemmas.List.Folds.{list_any-append}
use Rattle.std.proofs.lemmas.List.Recursion.{is_count_by}
use Rattle.std.proofs.lemmas.List.Sorted.{list_any-IsPermutation, sum_by-IsPermutation}
use Rattle.store.specs.Folders.{newest_files, numbers_of, without}
use Rattle.store.specs.Numbers.{count_above}

suc_or : (b : Bool) (n : ℕ) → (if b then suc n else n) ≡ cond b (1 + n) n
suc_or b n = let next : suc n ≡ 1 + n = omega arith in ap (λ (m : ℕ). cond b m n) next

-- how many are above a number, as std counts them
count_above_is : (number : ℕ) (numbers : List ℕ) → count_above number numbers ≡ count_by (nat_lt number) numbers
count_above_is number = is_count_by (count_above number) (nat_lt number) refl (λ n numbers. suc_or (nat_lt number n) (count_above number numbers))

-- their order doesn't matter
count_above-permutation : (number : ℕ) (numbers sorted : List ℕ) → IsPermutation numbers sorted → count_above number sorted ≡ count_above number numbers
count_above-permutation number numbers sorted p =
    count_above_is number sorted ∙ sum_by-IsPermutation (λ n. cond (nat_lt number n) 1 0) numbers sorted p ∙ sym (count_above_is number numbers)

-- whether fewer than `keep` of these are above a number
abbrev pub is_kept : ℕ → List ℕ → ℕ → Bool
is_kept keep numbers number = nat_lt (count_above number numbers) keep

-- whether a number is one of these
abbrev pub is_among : ℕ → List ℕ → Bool
is_among number numbers = list_any (λ n. n == number) numbers

-- the segments that stay, and those that were not looked at yet
abbrev pub left_after : (ℕ → Bool) → List ℕ → List (ℕ × List ℕ) → List (ℕ × List ℕ)
left_after stays seen files = filter (λ f. stays f.0 || not (is_among f.0 seen)) files

-- before one is looked at all are left
pub left_none : (stays : ℕ → Bool) (files : List (ℕ × List ℕ)) → left_after stays [] files ≡ files
left_none stays [] = refl
left_none stays (f ∷ files) =
    let passes = or_right (stays f.0) true refl in
    grind (arith, passes, left_none stays files)

-- a filter of what a filter left
filter_twice : {X : Type 0} (p q r : X → Bool) → ((x : X) → r x ≡ (q x && p x)) → (xs : List X) → filter p (filter q xs) ≡ filter r xs
filter_twice p q r both [] = refl
filter_twice p q r both (x ∷ xs) = grind (arith, both x, filter_twice p q r both xs)

module _ (stays : ℕ → Bool) (number : ℕ) where
  same_test : (x : ℕ) (seen : Bool) → stays number ≡ true → (stays x || not (seen || (number == x || false))) ≡ (stays x || not seen)
  same_test x seen is = grind (arith, nat_tests)

  next_test : (x : ℕ) (seen : Bool) → stays number ≡ false → (stays x || not (seen || (number == x || false))) ≡ ((stays x || not seen) && not (x == number))
  next_test x seen is = grind (arith, nat_tests)

  -- one that stays is looked at
  left_one_more : (seen : List ℕ) (files : List (ℕ × List ℕ)) → stays number ≡ true → left_after stays (seen ++ number ∷ []) files ≡ left_after stays seen files
  left_one_more seen files is =
      filter_agree _ _ (λ f. ap (λ (b : Bool). stays f.0 || not b) (list_any-append (λ n. n == f.0) seen (number ∷ [])) ∙ same_test f.0 (is_among f.0 seen) is) files

  -- one that goes is removed
  left_one_less : (seen : List ℕ) (files : List (ℕ × List ℕ)) → stays number ≡ false → left_after stays (seen ++ number ∷ []) files ≡ without number (left_after stays seen files)
  left_one_less seen files is =
      sym (filter_twice _ _ _ (λ f. ap (λ (b : Bool). stays f.0 || not b) (list_any-append (λ n. n == f.0) seen (number ∷ [])) ∙ next_test f.0 (is_among f.0 seen) is) files)

module _ (keep : ℕ) (numbers : List ℕ) (i : ℕ) (inside : i < length numbers) (files : List (ℕ × List ℕ)) where
  -- the next one stays if fewer are above it
  pub left_kept : count_above (get_or numbers i 0) numbers < keep → left_after (is_kept keep numbers) (take (i + 1) numbers) files ≡ left_after (is_kept keep numbers) (take i numbers) files
  left_kept few =
      ap (λ (seen : List ℕ). left_after (is_kept keep numbers) seen files) (take_more numbers i 0 inside)
      ∙ left_one_more (is_kept keep numbers) (get_or numbers i 0) (take i numbers) files (lt-ltb _ _ few)

  -- else it is removed
  pub left_removed : keep ≤ count_above (get_or numbers i 0) numbers → left_after (is_kept keep numbers) (take (i + 1) numbers) files ≡ without (get_or numbers i 0) (left_after (is_kept keep numbers) (take i numbers) files)
  left_removed many =
      ap (λ (seen : List ℕ). left_after (is_kept keep numbers) seen files) (take_more numbers i 0 inside)
      ∙ left_one_less (is_kept keep numbers) (get_or numbers i 0) (take i numbers) files (le-ltb _ _ many)

-- once all were looked at, only those that stay are left
all_seen : (stays : ℕ → Bool) (seen : List ℕ) (files : List (ℕ × List ℕ)) → ((x : ℕ) → is_among x (numbers_of files) ≡ true → is_among x seen ≡ true) → left_after stays seen files ≡ filter (λ f. stays f.0) files
all_seen stays seen [] h = refl
all_seen stays seen (f ∷ files) h =
    let there = h f.0 (or_left _ _ (eq-eqb f.0 f.0 refl)) in
    let rest = all_seen stays seen files (λ x among. h x (or_right _ _ among)) in
    grind (arith, there, rest)

-- these are the newest ones
pub left_newest : (keep : ℕ) (files : List (ℕ × List ℕ)) (sorted : List ℕ) → IsPermutation (numbers_of files) sorted → left_after (is_kept keep sorted) sorted files ≡ newest_files keep files
left_newest keep files sorted p =
    all_seen (is_kept keep sorted) sorted files (λ x among. sym (list_any-IsPermutation (λ n. n == x) (numbers_of files) sorted p) ∙ among)
    ∙ filter_agree _ _ (λ f. ap (λ (n : ℕ). nat_lt n keep) (count_above-permutation f.0 (numbers_of files) sorted p)) files
