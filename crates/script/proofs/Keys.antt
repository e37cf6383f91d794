-- The keys of a file's messages are keys.
use Rattle.std.proofs.Common.{◌≡◌, ◌≤◌, ◌<◌, ◌+◌, ◌++◌, ℕ, true, List, [], ◌∷◌, length, codes, decimal, length-append, refl, ap, ◌∙◌, arith}
use Rattle.std.specs.Char.{digit_value}
use Rattle.std.specs.List.{list_all}
use Rattle.std.specs.Str.Parse.{AllDigits}
use Rattle.std.proofs.lemmas.Bool.{and_from, and_parts, le-leb, leb-true}
use Rattle.std.proofs.lemmas.Bool.Decides.{nat_tests}
use Rattle.std.proofs.lemmas.Fmt.{decimal_is_IsNumeral, length-decimal-le}
use Rattle.std.proofs.lemmas.List.Folds.{list_all-append}
use Rattle.maildrop.specs.Key.{IsKey}
use Rattle.maildrop.specs.Name.{is_visible}
use Rattle.script.specs.Keys.{IsKeyPrefix, last_message, numbered_key}

digit_visible : (c : ℕ) → digit_value c < 10 → is_visible c ≡ true
digit_visible c small = grind (arith, nat_tests)

pub digits_visible : (ds : List ℕ) → AllDigits 10 ds → list_all is_visible ds ≡ true
digits_visible [] all = refl
digits_visible (c ∷ cs) all = and_from _ _ (digit_visible c all.0) (digits_visible cs all.1)

-- nine digits at most
few_digits : (n : ℕ) → n ≤ last_message → length (decimal n) ≤ 9
few_digits n few = length-decimal-le 9 n (omega arith) (omega (arith, few)) (omega (arith, few))

numbered_length : (prefix : List ℕ) (n : ℕ) → length (numbered_key prefix n) ≡ length prefix + 1 + length (decimal n)
numbered_length prefix n = length-append (prefix ++ codes ".") (decimal n) ∙ ap (λ k. k + length (decimal n)) (length-append prefix (codes "."))

pub numbered_short : (prefix : List ℕ) (n : ℕ) → IsKeyPrefix prefix → n ≤ last_message → length (numbered_key prefix n) ≤ 64
numbered_short prefix n is few =
    let short : length prefix ≤ 54 = leb-true _ _ (and_parts _ _ is).0 in
    omega (arith, short, few_digits n few, numbered_length prefix n)

pub numbered_is_key : (prefix : List ℕ) (n : ℕ) → IsKeyPrefix prefix → n ≤ last_message → IsKey (numbered_key prefix n)
numbered_is_key prefix n is few =
    let key : IsKey prefix = (and_parts _ _ is).1 in
    let seen : list_all is_visible prefix ≡ true = (and_parts _ _ key).1 in
    let visible : list_all is_visible (numbered_key prefix n) ≡ true =
    list_all-append is_visible (prefix ++ codes ".") (decimal n)
    ∙ and_from _ _ (list_all-append is_visible prefix (codes ".") ∙ and_from _ _ seen refl) (digits_visible (decimal n) (decimal_is_IsNumeral n (omega (arith, few))).0.1) in
    let some : 1 ≤ length (numbered_key prefix n) = omega (arith, numbered_length prefix n) in
    and_from _ _ (and_from _ _ (le-leb _ _ some) (le-leb _ _ (numbered_short prefix n is few))) visible
