-- A number has no bracket.
use Rattle.std.proofs.Common.{◌≡◌, ◌<◌, ◌≤◌, ◌+◌, ◌%◌, ◌^◌, ℕ, false, List, [], ◌∷◌, ◌++◌, length, arith, codes, decimal, refl, ap}
use Rattle.std.specs.Prelude.{nat_eq}
use Rattle.std.proofs.lemmas.Fmt.{decimal_by_steps}
use Rattle.pop3_wire.specs.declared.listed.Listed.{Listed}
use Rattle.pop3_wire.specs.Reply.{has_response_code, number_line, scan_listings, message_text}

-- a number's text begins with a digit
record BeginsWithDigit (xs : List ℕ) : Type 0 where
  first : ℕ
  rest : List ℕ
  is : xs ≡ first ∷ rest
  digit : first ≤ 57

decimal_begins : (n : ℕ) → n < 2 ^ 64 → BeginsWithDigit (decimal n)
decimal_begins n fits = decimal_by_steps (λ n xs. BeginsWithDigit xs)
    (λ n one. record { first = 48 + n; rest = []; is = refl; digit = omega (arith, one) })
    (λ n ds many begins. record { first = begins.first; rest = begins.rest ++ (48 + n % 10) ∷ []; is = ap (λ xs. xs ++ (48 + n % 10) ∷ []) begins.is; digit = begins.digit })
    n fits

no_bracket : (digit : ℕ) → digit ≤ 57 → nat_eq 91 digit ≡ false
no_bracket digit low = grind arith

pub no_code-numbers : (first second : ℕ) → first < 2 ^ 64 → has_response_code (codes "+OK " ++ number_line first second) ≡ false
no_code-numbers first second fits =
    let begins = decimal_begins first fits in
    rw (begins.is) (rw (no_bracket begins.first begins.digit) refl)

pub no_code-scan_listings : (octets : ℕ) (messages : List Listed) → length messages < 2 ^ 64 → has_response_code (scan_listings octets messages) ≡ false
no_code-scan_listings octets messages fits =
    let begins = decimal_begins (length messages) fits in
    rw (begins.is) (rw (no_bracket begins.first begins.digit) refl)

pub no_code-message_text : (octets : ℕ) (text : List (List ℕ)) → octets < 2 ^ 64 → has_response_code (message_text octets text) ≡ false
no_code-message_text octets text fits =
    let begins = decimal_begins octets fits in
    rw (begins.is) (rw (no_bracket begins.first begins.digit) refl)
