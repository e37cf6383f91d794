-- The timestamp of a greeting: <nonce@host>.
use Rattle.std.specs.Prelude.{ℕ, ◌≤◌, ◌++◌, ◌==◌, ◌&&◌, ◌||◌, List, [], ◌∷◌, Bool, true, false, nat_le, length, IsTrue, codes}

-- the parts of a timestamp
pub record Stamp : Type 0 where
  pub nonce : List ℕ
  pub host : List ℕ

abbrev pub is_letter_or_digit : ℕ → Bool
is_letter_or_digit b = (nat_le 48 b && nat_le b 57) || (nat_le 65 b && nat_le b 90) || (nat_le 97 b && nat_le b 122)

abbrev pub dot : ℕ
dot = 46

abbrev pub hyphen : ℕ
hyphen = 45

-- A letter or a digit may follow anything, a dot a letter or a digit, and a hyphen, if hyphens are allowed, a
-- letter, a digit or a hyphen.
abbrev pub may_follow : Bool → ℕ → ℕ → Bool
may_follow hyphens before b =
    is_letter_or_digit b
    || (b == dot && is_letter_or_digit before)
    || (hyphens && b == hyphen && (is_letter_or_digit before || before == hyphen))

-- what stands after a byte: each may follow the one before it, and the last is a letter or a digit
abbrev pub goes_on : Bool → ℕ → List ℕ → Bool
goes_on hyphens before [] = is_letter_or_digit before
goes_on hyphens before (b ∷ bs) = may_follow hyphens before b && goes_on hyphens b bs

-- runs of letters and digits, with hyphens inside a run if these are allowed, joined by single dots: such a text
-- goes on after a dot
abbrev pub are_runs : Bool → List ℕ → Bool
are_runs hyphens text = goes_on hyphens dot text

-- the most characters of a nonce and of a host
abbrev pub longest_nonce : ℕ
longest_nonce = 60

abbrev pub longest_host : ℕ
longest_host = 100

abbrev pub IsNonce : List ℕ → Type 0
IsNonce text = (length text ≤ longest_nonce) × IsTrue (are_runs false text)

abbrev pub IsHost : List ℕ → Type 0
IsHost text = (length text ≤ longest_host) × IsTrue (are_runs true text)

-- the text of a timestamp, angle brackets included
abbrev pub timestamp : Stamp → List ℕ
timestamp stamp = codes "<" ++ stamp.nonce ++ codes "@" ++ stamp.host ++ codes ">"
