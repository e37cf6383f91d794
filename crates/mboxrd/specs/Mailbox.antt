-- Mailboxes: what a file in the mboxrd format holds, and how one is written. `lines` is std's word for the lines of a
-- text: a line feed ends a line, one carriage return directly before it is dropped, and what stands after the last
-- line feed is a line, if it is not empty.
use Rattle.std.specs.Prelude.{◌≢◌, ℕ, ◌==◌, ◌++◌, Bool, true, false, not, ◌&&◌, nat_eq, List, [], ◌∷◌, map, drop, if◌then◌else◌, codes, Result, Ok, Err}
use Rattle.std.specs.List.{starts_with, slice_split, flat_map, list_all}
use Rattle.std.specs.Str.Lines.{lines}
use Rattle.mboxrd.specs.declared.error.MboxError.{MboxError}
use Rattle.mboxrd.specs.declared.error.MboxError.TheVariants.{NoFromLine, Memory}

-- a line `From ..`: it begins a message, and isn't part of it
abbrev pub begins_message : List ℕ → Bool
begins_message line = starts_with nat_eq line (codes "From ")

-- a line that begins a message, and has no line feed (10)
abbrev pub is_from_line : List ℕ → Bool
is_from_line line = begins_message line && list_all (λ b. not (b == 10)) line

-- any number of `>` (62), and then `From `
abbrev pub is_quotable : List ℕ → Bool
is_quotable [] = false
is_quotable (b ∷ bs) = if b == 62 then is_quotable bs else begins_message (b ∷ bs)

-- a line as it is written: one more `>` before any number of them and `From `
abbrev pub quoted : List ℕ → List ℕ
quoted line = if is_quotable line then 62 ∷ line else line

-- a line as it is read: one `>` less before `From `, if there is one
abbrev pub unquoted : List ℕ → List ℕ
unquoted [] = []
unquoted (b ∷ bs) = if b == 62 then (if is_quotable bs then bs else b ∷ bs) else b ∷ bs

-- lines without one empty line at their end
abbrev pub without_last_empty : List (List ℕ) → List (List ℕ)
without_last_empty [] = []
without_last_empty ([] ∷ []) = []
without_last_empty (line ∷ lines) = line ∷ without_last_empty lines

-- the text of the lines between two that begin a message
abbrev pub text_of : List (List ℕ) → List (List ℕ)
text_of lines = map unquoted (without_last_empty lines)

-- the texts of a file's lines: these are cut at each line that begins a message, and nothing stands before the first
abbrev pub texts_of : List (List ℕ) → List (List (List ℕ))
texts_of lines = map text_of (drop 1 (slice_split begins_message lines))

-- the lines of a file that has no message, or begins with one
abbrev pub are_messages : List (List ℕ) → Bool
are_messages [] = true
are_messages (line ∷ lines) = begins_message line

-- what a file holds
abbrev pub read_of : List ℕ → Result (List (List (List ℕ))) MboxError
read_of bytes = if are_messages (lines bytes) then Ok (texts_of (lines bytes)) else Err NoFromLine

-- lines, each with a line feed (10) after it
abbrev pub file_of : List (List ℕ) → List ℕ
file_of lines = flat_map (λ line. line ++ 10 ∷ []) lines

-- the lines of a message after its `From ` line: an empty line is the last
abbrev pub message_of : List ℕ → List (List ℕ) → List (List ℕ)
message_of from_line text = from_line ∷ map quoted text ++ [] ∷ []

-- the file of these texts, each after the same `From ` line
abbrev pub written_of : List ℕ → List (List (List ℕ)) → List ℕ
written_of from_line texts = flat_map (λ text. file_of (message_of from_line text)) texts

-- a line that no carriage return (13) ends
abbrev pub EndsInNoReturn : List ℕ → Type 0
EndsInNoReturn line = (front : List ℕ) → line ≢ front ++ 13 ∷ []

-- the fixed numbers of the errors
abbrev pub error_number : MboxError → ℕ
error_number NoFromLine = 1
error_number Memory = 2
