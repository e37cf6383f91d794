-- A text of few octets has few lines, and all of them are short.
use Rattle.std.proofs.Common.{◌≡◌, ℕ, ◌+◌, ◌<◌, ◌≤◌, ◌^◌, List, [], ◌∷◌, length, arith}
use Rattle.std.proofs.lemmas.List.Sums.{sum_by-cons}
use Rattle.maildrop.specs.Text.{octets_of}
use Rattle.ledger.specs.Fitting.{FitAll, IsShort}

octets-cons : (line : List ℕ) (text : List (List ℕ)) → octets_of (line ∷ text) ≡ length line + 2 + octets_of text
octets-cons line text = sum_by-cons (λ line. length line + 2) line text

lines-octets : (text : List (List ℕ)) → length text ≤ octets_of text
lines-octets [] = omega arith
lines-octets (line ∷ text) = omega (arith, octets-cons line text, lines-octets text)

pub few_lines : (text : List (List ℕ)) → octets_of text < 2 ^ 32 → length text < 2 ^ 32
few_lines text few = omega (arith, few, lines-octets text)

pub short_lines : (text : List (List ℕ)) → octets_of text < 2 ^ 32 → FitAll IsShort text
short_lines [] few = tt
short_lines (line ∷ text) few = (omega (arith, few, octets-cons line text), short_lines text (omega (arith, few, octets-cons line text)))
