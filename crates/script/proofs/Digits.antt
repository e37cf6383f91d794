-- The value of digits, from the front.
use Rattle.std.proofs.Common.{◌≡◌, ◌≤◌, ◌<◌, ◌+◌, ◌-◌, ◌*◌, ℕ, List, [], ◌∷◌, fold, length, drop, get_or, drop-cons, add-one, arith, refl}

-- the value of more digits after a number
abbrev pub value_behind : ℕ → List ℕ → ℕ
value_behind number digits = fold (λ n digit. 10 * n + (digit - 48)) number digits

-- more digits make it no smaller
grows : (number : ℕ) (digits : List ℕ) → number ≤ value_behind number digits
grows number [] = omega arith
grows number (digit ∷ digits) = omega (arith, grows (10 * number + (digit - 48)) digits)

-- one digit more is read
pub read_one : (digits : List ℕ) (i number : ℕ) → i < length digits → value_behind number (drop i digits) ≡ value_behind (10 * number + (get_or digits i 0 - 48)) (drop (i + 1) digits)
read_one digits i number inside = rw (drop-cons digits i 0 inside, add-one) refl

-- a front that is too high makes the whole too high
pub stays_high : (digits : List ℕ) (i number bound : ℕ) → i < length digits → bound ≤ 10 * number + (get_or digits i 0 - 48) → bound ≤ value_behind number (drop i digits)
stays_high digits i number bound inside high =
    omega (arith, high, read_one digits i number inside, grows (10 * number + (get_or digits i 0 - 48)) (drop (i + 1) digits))
