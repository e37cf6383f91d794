-- The first lines of replies are short.
use Rattle.std.proofs.Common.{◌≡◌, ◌<◌, ◌≤◌, ◌+◌, ◌^◌, ℕ, List, [], ◌∷◌, ◌++◌, length, arith, length-append, append_assoc, codes, decimal, ◌==◌, inl, inr, refl, sym, subst}
use Rattle.std.specs.List.{flat_map}
use Rattle.pop3_wire.specs.Stuffing.{wire_form}
use Rattle.std.proofs.lemmas.Bool.{cases_Bool}
use Rattle.std.proofs.lemmas.Fmt.{length-decimal-le}
use Rattle.std.specs.Io.BufRead.{take_through}
use Rattle.pop3_wire.specs.declared.listed.Listed.{Listed}
use Rattle.pop3_wire.specs.Reply.{HasShortFirstLine, greeting, maildrop_has, scan_listings, message_text, message_deleted, number_line}

-- up to an LF there is at most what stands before some place, and what is after it up to an LF
through-append : (xs ys : List ℕ) → length (take_through 10 (xs ++ ys)) ≤ length xs + length (take_through 10 ys)
through-append [] ys = omega arith
through-append (x ∷ xs) ys = elim (cases_Bool (x == 10)) [
  | inl lf ↦ rw lf (omega arith)
  | inr other ↦ rw other (omega (arith, through-append xs ys))
]

-- bytes are no shorter than their first line
pub through-le : (xs : List ℕ) → length (take_through 10 xs) ≤ length xs
through-le [] = omega arith
through-le (x ∷ xs) = elim (cases_Bool (x == 10)) [
  | inl lf ↦ rw lf (omega arith)
  | inr other ↦ rw other (omega (arith, through-le xs))
]

twenty : (n : ℕ) → n < 2 ^ 64 → length (decimal n) ≤ 20
twenty n fits = length-decimal-le 20 n (omega arith) (omega arith) fits

length_3 : (a b c : List ℕ) → length (a ++ b ++ c) ≡ length a + length b + length c
length_3 a b c = rw (length-append, length-append) refl

length_4 : (a b c d : List ℕ) → length (a ++ b ++ c ++ d) ≡ length a + length b + length c + length d
length_4 a b c d = rw (length-append, length-append, length-append) refl

length_5 : (a b c d e : List ℕ) → length (a ++ b ++ c ++ d ++ e) ≡ length a + length b + length c + length d + length e
length_5 a b c d e = rw (length-append, length-append, length-append, length-append) refl

pub short-greeting : (nonce host : List ℕ) → length nonce ≤ 60 → length host ≤ 100 → HasShortFirstLine (greeting nonce host)
short-greeting nonce host few others =
    omega (arith, through-le (greeting nonce host), length_5 (codes "+OK POP3 server ready <") nonce (codes "@") host (codes ">\r\n"))

pub short-maildrop_has : (messages octets : ℕ) → messages < 2 ^ 64 → octets < 2 ^ 64 → HasShortFirstLine (maildrop_has messages octets)
short-maildrop_has messages octets few small =
    omega (arith, through-le (maildrop_has messages octets), twenty messages few, twenty octets small, length_5 (codes "+OK maildrop has ") (decimal messages) (codes " messages (") (decimal octets) (codes " octets)\r\n"))

-- a reply of two numbers
pub short-number_line : (first second : ℕ) → first < 2 ^ 64 → second < 2 ^ 64 → HasShortFirstLine (codes "+OK " ++ number_line first second)
short-number_line first second few small =
    omega (arith, through-le (codes "+OK " ++ number_line first second), twenty first few, twenty second small, length_5 [] (decimal first) (codes " ") (decimal second) (codes "\r\n"))

pub short-message_deleted : (number : ℕ) → number < 2 ^ 64 → HasShortFirstLine (message_deleted number)
short-message_deleted number few =
    omega (arith, through-le (message_deleted number), twenty number few, length_3 (codes "+OK message ") (decimal number) (codes " deleted\r\n"))

-- a first line that ends before the reply does
short-ended : (front line rest : List ℕ) → length front ≤ 400 → length (take_through 10 (line ++ rest)) ≤ 100 → HasShortFirstLine (front ++ line ++ rest)
short-ended front line rest few small =
    rw append_assoc (omega (arith, through-append front (line ++ rest)))

pub short-message_text : (octets : ℕ) (text : List (List ℕ)) → octets < 2 ^ 64 → HasShortFirstLine (message_text octets text)
short-message_text octets text small =
    short-ended (codes "+OK " ++ decimal octets) (codes " octets\r\n") (wire_form text) (omega (arith, twenty octets small)) (omega arith)

pub short-scan_listings : (octets : ℕ) (messages : List Listed) → octets < 2 ^ 64 → length messages < 2 ^ 64 → HasShortFirstLine (scan_listings octets messages)
short-scan_listings octets messages small few =
    let front : List ℕ = codes "+OK " ++ decimal (length messages) ++ codes " messages (" ++ decimal octets in
    let line : List ℕ = codes " octets)\r\n" in
    let sizes : length front ≤ 400 =
    omega (arith, twenty octets small, twenty (length messages) few, length_4 (codes "+OK ") (decimal (length messages)) (codes " messages (") (decimal octets)) in
    subst HasShortFirstLine (sym (append_assoc (front ++ line) (flat_map (λ message. number_line message.number message.octets) messages) (codes ".\r\n")))
    (short-ended front line (flat_map (λ message. number_line message.number message.octets) messages ++ codes ".\r\n") sizes (omega arith))
