-- Lists that are cut at each place of one byte.
use Rattle.std.proofs.Common.{◌≡◌, ◌<◌, ◌≤◌, ◌+◌, ◌-◌, add-one, ℕ, zero, suc, true, false, if◌then◌else◌, ◌==◌, List, [], ◌∷◌, length, take, drop, get_or, refl, arith, None}
use Rattle.std.specs.List.{slice_split, onto_first}
use Rattle.memchr.specs.Find.{NoneBefore, Nowhere, Passes, is_byte}
use Rattle.std.proofs.lemmas.List.{take_rest}
use Rattle.pop3_wire.specs.Commands.{arguments_in}
use Rattle.pop3_wire.specs.Arguments.{is_nothing, only_argument, two_arguments}

split_first : (c : ℕ) (xs : List ℕ) (k : ℕ) → k < length xs → ((i : ℕ) → i < k → (get_or xs i 0 == c) ≡ true → ⊥) → (get_or xs k 0 == c) ≡ true → slice_split (is_byte c) xs ≡ take k xs ∷ slice_split (is_byte c) (drop (suc k) xs)
split_first c [] k lt before here = absurd (omega arith)
split_first c (x ∷ xs) zero lt before here = rw here refl
split_first c (x ∷ xs) (suc k) lt before here =
    let first : (x == c) ≡ true → ⊥ = before 0 (omega arith) in
    let no : (x == c) ≡ false = grind arith in
    rw (no, split_first c xs k (omega arith) (λ i h. before (suc i) (omega arith)) here) refl

split_nowhere : (c : ℕ) (xs : List ℕ) → ((i : ℕ) → i < length xs → (get_or xs i 0 == c) ≡ true → ⊥) → slice_split (is_byte c) xs ≡ xs ∷ []
split_nowhere c [] none = refl
split_nowhere c (x ∷ xs) none =
    let first : (x == c) ≡ true → ⊥ = none 0 (omega arith) in
    let no : (x == c) ≡ false = grind arith in
    rw (no, split_nowhere c xs (λ i h. none (suc i) (omega arith))) refl

-- the first part ends where the byte stands first
pub split_at_first : (c : ℕ) (xs : List ℕ) (k : ℕ) → NoneBefore (Passes (is_byte c) xs) 0 (length xs) k → Passes (is_byte c) xs k → slice_split (is_byte c) xs ≡ take k xs ∷ slice_split (is_byte c) (take (length xs - (k + 1)) (drop (k + 1) xs))
split_at_first c xs k none here =
    rw (take_rest xs (k + 1), add-one, split_first c xs k none.high (λ i below. none.before i (omega arith) below) here) refl

-- without the byte there is one part
pub split_without : (c : ℕ) (xs : List ℕ) → Nowhere (Passes (is_byte c) xs) 0 (length xs) → slice_split (is_byte c) xs ≡ xs ∷ []
split_without c xs none = split_nowhere c xs (λ i below. none i (omega arith) below)

-- there always is a part
pub split_parts : (c : ℕ) (xs : List ℕ) → (part : List ℕ) × (parts : List (List ℕ)) × (slice_split (is_byte c) xs ≡ part ∷ parts)
split_parts c [] = ([], [], refl)
split_parts c (x ∷ xs) = elim (x == c) as (λ b. (part : List ℕ) × (parts : List (List ℕ)) × (if b then [] ∷ slice_split (is_byte c) xs else onto_first x (slice_split (is_byte c) xs)) ≡ part ∷ parts) [
  | true ↦ ([], slice_split (is_byte c) xs, refl)
  | false ↦ let more = split_parts c xs in (x ∷ more.0, more.1, rw more.2 refl)
]

-- what stands after a keyword, if anything does
arguments_behind : (rest : List ℕ) → 1 ≤ length rest → arguments_in rest ≡ slice_split (is_byte 32) (take (length rest - 1) (drop 1 rest))
arguments_behind [] some = absurd (omega arith)
arguments_behind (space ∷ bytes) some = rw take_rest refl

-- there are arguments exactly if anything stands after the keyword
pub is_nothing-arguments : (rest : List ℕ) → (length rest == 0) ≡ is_nothing (arguments_in rest)
is_nothing-arguments [] = refl
is_nothing-arguments (space ∷ bytes) =
    let more = split_parts 32 bytes in
    let some : (length (space ∷ bytes) == 0) ≡ false = grind arith in
    rw (more.2, some) refl

-- two parts at least are not one argument
pub no_only_argument : (rest x xs : List ℕ) → 1 ≤ length rest → slice_split (is_byte 32) (take (length rest - 1) (drop 1 rest)) ≡ x ∷ slice_split (is_byte 32) xs → None ≡ only_argument (arguments_in rest)
no_only_argument rest x xs some parts = let more = split_parts 32 xs in rw (arguments_behind rest some, parts, more.2) refl

-- one part is not two arguments
pub one_argument : (rest x : List ℕ) → 1 ≤ length rest → slice_split (is_byte 32) (take (length rest - 1) (drop 1 rest)) ≡ x ∷ [] → None ≡ two_arguments (arguments_in rest)
one_argument rest x some parts = rw (arguments_behind rest some, parts) refl

-- three parts at least are not two arguments
pub no_two_arguments : (rest x y ys zs : List ℕ) → 1 ≤ length rest → slice_split (is_byte 32) (take (length rest - 1) (drop 1 rest)) ≡ x ∷ slice_split (is_byte 32) ys → slice_split (is_byte 32) ys ≡ y ∷ slice_split (is_byte 32) zs → None ≡ two_arguments (arguments_in rest)
no_two_arguments rest x y ys zs some parts others = let more = split_parts 32 zs in rw (arguments_behind rest some, parts, others, more.2) refl
