-- Streams that are cut at LF.
use Rattle.std.proofs.Common.{◌≡◌, ℕ, zero, suc, true, false, ◌==◌, nat_lt, List, [], ◌∷◌, ◌++◌, length, take, ap, refl, arith, ◌⊎◌, inl, inr, length-append}
use Rattle.std.proofs.lemmas.List.{take_all, length-take}
use Rattle.std.proofs.lemmas.Bool.{cases_lt, cases_Bool, lt-ltb, or_parts, or_from}
use Rattle.std.specs.List.{slice_split, list_any}
use Rattle.pop3_wire.specs.Lines.{is_lf, line_of, lines_of}
use Rattle.pop3_wire.proofs.Cutting.{split_parts}

-- without an LF there is one part
pub split_none : (xs : List ℕ) → list_any is_lf xs ≡ false → slice_split is_lf xs ≡ xs ∷ []
split_none [] none = refl
split_none (x ∷ xs) none =
    let parts = or_parts (x == 10) (list_any is_lf xs) none in
    rw (parts.0, split_none xs parts.1) refl

-- the first LF ends the first part
pub split_ended : (xs ys : List ℕ) → list_any is_lf xs ≡ false → slice_split is_lf (xs ++ 10 ∷ ys) ≡ xs ∷ slice_split is_lf ys
split_ended [] ys none = refl
split_ended (x ∷ xs) ys none =
    let parts = or_parts (x == 10) (list_any is_lf xs) none in
    rw (parts.0, split_ended xs ys parts.1) refl

-- without an LF there is no line
pub lines_of-none : (xs : List ℕ) → list_any is_lf xs ≡ false → lines_of xs ≡ []
lines_of-none xs none = rw (split_none xs none) refl

-- the first LF ends the first line
pub lines_of-ended : (xs ys : List ℕ) → list_any is_lf xs ≡ false → lines_of (xs ++ 10 ∷ ys) ≡ line_of xs ∷ lines_of ys
lines_of-ended xs ys none = let more = split_parts 10 ys in rw (split_ended xs ys none, more.2) refl

pub is_ten : (x : ℕ) → (x == 10) ≡ true → x ≡ 10
is_ten x lf = grind arith

-- bytes have no LF, or a first one
pub first_lf : (xs : List ℕ) → (list_any is_lf xs ≡ false) ⊎ ((front : List ℕ) × (rest : List ℕ) × (list_any is_lf front ≡ false) × (xs ≡ front ++ 10 ∷ rest))
first_lf [] = inl refl
first_lf (x ∷ xs) =
    elim (cases_Bool (x == 10)) [
      | inl lf ↦ inr ([], xs, refl, ap (λ b. b ∷ xs) (is_ten x lf))
      | inr other ↦ elim (first_lf xs) [
        | inl none ↦ inl (or_from (x == 10) (list_any is_lf xs) other none)
        | inr found ↦ inr (x ∷ found.0, found.1, or_from (x == 10) (list_any is_lf found.0) other found.2, ap (λ zs. x ∷ zs) found.3)
      ]
    ]

-- taking twice is taking once
pub take_again : (n : ℕ) (xs ys : List ℕ) → take n (take n xs ++ ys) ≡ take n (xs ++ ys)
take_again zero xs ys = refl
take_again (suc n) [] ys = refl
take_again (suc n) (x ∷ xs) ys = ap (λ zs. x ∷ zs) (take_again n xs ys)

-- what is after its first 512 bytes tells a line nothing
pub line_of-take : (xs ys : List ℕ) → line_of (take 512 xs ++ ys) ≡ line_of (xs ++ ys)
line_of-take xs ys =
    elim (cases_lt 512 (length xs)) [
      | inl long ↦
          let one : nat_lt 511 (length (take 512 xs ++ ys)) ≡ true = lt-ltb 511 _ (omega (arith, length-append {A = ℕ}, length-take {A = ℕ})) in
          let other : nat_lt 511 (length (xs ++ ys)) ≡ true = lt-ltb 511 _ (omega (arith, length-append {A = ℕ})) in
          rw (one, other) refl
      | inr short ↦ rw (take_all 512 xs short) refl
    ]
