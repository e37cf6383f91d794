-- Worked examples of the definitions.
use Rattle.std.specs.Prelude.{◌≡◌, ◌++◌, ℕ, List, [], ◌∷◌, refl, codes, Ok, Err, Some, None}
use Rattle.mboxrd.specs.Reader.{kept_after, Reading, Failed}
use Rattle.mboxrd.specs.Mailbox.{read_of, written_of, file_of, quoted, unquoted}
use Rattle.mboxrd.specs.declared.error.MboxError.TheVariants.{NoFromLine}

abbrev from_line : List ℕ
from_line = codes "From a@b Thu Jan  1 00:00:00 1970"

abbrev text : List (List ℕ)
text = codes "Subject: x" ∷ [] ∷ codes "hi" ∷ codes "." ∷ codes "From me" ∷ []

abbrev mailbox : List ℕ
mailbox = file_of (from_line ∷ codes "Subject: x" ∷ [] ∷ codes "hi" ∷ codes "." ∷ codes ">From me" ∷ [] ∷ [])

one_message : read_of mailbox ≡ Ok (text ∷ [])
one_message = refl

written_back : written_of from_line (text ∷ []) ≡ mailbox
written_back = refl

two_messages : read_of (mailbox ++ mailbox) ≡ Ok (text ∷ text ∷ [])
two_messages = refl

no_message : read_of [] ≡ Ok []
no_message = refl

no_from_line : read_of (codes "hello" ++ 10 ∷ []) ≡ Err NoFromLine
no_from_line = refl

empty_line_first : read_of (10 ∷ mailbox) ≡ Err NoFromLine
empty_line_first = refl

no_line_feed : read_of (codes "From x") ≡ Ok ([] ∷ [])
no_line_feed = refl

carriage_returns : read_of (codes "From x" ++ 13 ∷ 10 ∷ codes ">>From a" ++ 13 ∷ 10 ∷ []) ≡ Ok ((codes ">From a" ∷ []) ∷ [])
carriage_returns = refl

-- one empty line at the end is dropped, and no other
two_empty_lines : read_of (file_of (codes "From x" ∷ [] ∷ [] ∷ [])) ≡ Ok (([] ∷ []) ∷ [])
two_empty_lines = refl

-- a `>` before anything else stays
other_quotes : unquoted (codes ">hi") ≡ codes ">hi"
other_quotes = refl

other_lines : quoted (codes "> From a") ≡ codes "> From a"
other_lines = refl

-- what is kept of a mailbox that comes in pieces
first_bytes : kept_after (codes "Fr") ≡ Reading [] None (codes "Fr")
first_bytes = refl

first_bytes_alone : read_of (codes "Fr") ≡ Err NoFromLine
first_bytes_alone = refl

other_bytes : kept_after (codes "Fx") ≡ Failed NoFromLine
other_bytes = refl

open_message : kept_after mailbox ≡ Reading [] (Some (text ++ [] ∷ [])) []
open_message = refl

open_line : kept_after (mailbox ++ mailbox ++ codes "From x") ≡ Reading (text ∷ []) (Some (text ++ [] ∷ [])) (codes "From x")
open_line = refl
