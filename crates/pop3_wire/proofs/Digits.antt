-- The digits of a number.
use Rattle.std.proofs.Common.{◌≡◌, ◌<◌, ◌≤◌, ◌^◌, ℕ, false, IsTrue, List, length, get_or, arith}
use Rattle.std.proofs.Math.Nat.{pow-le-pow_right}
use Rattle.std.specs.List.{list_all}
use Rattle.std.specs.Char.{is_ascii_digit}
use Rattle.std.proofs.lemmas.List.Folds.{list_all_at}

-- each of them is a digit
pub digit_low : (xs : List ℕ) (i : ℕ) → i < length xs → IsTrue (list_all is_ascii_digit xs) → 48 ≤ get_or xs i 0
digit_low xs i lt all =
    let yes : is_ascii_digit (get_or xs i 0) ≡ false → ⊥ = λ e. let no : list_all is_ascii_digit xs ≡ false = list_all_at is_ascii_digit xs i 0 lt e in cc in
    grind arith

pub digit_high : (xs : List ℕ) (i : ℕ) → i < length xs → IsTrue (list_all is_ascii_digit xs) → get_or xs i 0 ≤ 57
digit_high xs i lt all =
    let yes : is_ascii_digit (get_or xs i 0) ≡ false → ⊥ = λ e. let no : list_all is_ascii_digit xs ≡ false = list_all_at is_ascii_digit xs i 0 lt e in cc in
    grind arith

-- at most eight digits stand for less than 10 ^ 8
pub few_digits_small : (n i : ℕ) → n < 10 ^ i → i < 9 → n < 100000000
few_digits_small n i below few =
    let more : 10 ^ i ≤ 10 ^ 8 = pow-le-pow_right {n = 10} (omega arith) {i = i} {j = 8} (omega arith) in
    omega arith
