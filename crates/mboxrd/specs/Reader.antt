-- What is kept of a mailbox whose bytes come in pieces.
use Rattle.std.specs.Prelude.{◌≡◌, ℕ, ◌==◌, ◌&&◌, ◌++◌, Bool, true, false, List, [], ◌∷◌, map, drop, length, min, codes, Option, None, Some, if◌then◌else◌}
use Rattle.std.specs.Option.{option_map}
use Rattle.std.specs.List.{slice_split}
use Rattle.std.specs.Str.Lines.{strip_carriage_return}
use Rattle.mboxrd.specs.Mailbox.{begins_message, unquoted, without_last_empty, text_of}
use Rattle.mboxrd.specs.declared.error.MboxError.{MboxError}
use Rattle.mboxrd.specs.declared.error.MboxError.TheVariants.{NoFromLine}

-- of the parts of what has come so far the last is open, and the others have ended
abbrev pub ended_parts : {X : Type 0} → List (List X) → List (List X)
ended_parts [] = []
ended_parts (part ∷ []) = []
ended_parts (part ∷ next ∷ more) = part ∷ ended_parts (next ∷ more)

abbrev pub open_part : {X : Type 0} → List (List X) → List X
open_part [] = []
open_part (part ∷ []) = part
open_part (part ∷ next ∷ more) = open_part (next ∷ more)

abbrev pub parts_of : List ℕ → List (List ℕ)
parts_of bytes = slice_split (λ b. b == 10) bytes

-- the lines that a line feed has ended
abbrev pub ended_lines : List ℕ → List (List ℕ)
ended_lines bytes = map strip_carriage_return (ended_parts (parts_of bytes))

-- the lines of each message, without the one that begins it
abbrev pub messages_of : List (List ℕ) → List (List (List ℕ))
messages_of lines = drop 1 (slice_split begins_message lines)

-- the lines of the message that is open, if one is
abbrev pub open_text : List (List (List ℕ)) → Option (List (List ℕ))
open_text [] = None
open_text (message ∷ messages) = Some (map unquoted (open_part (message ∷ messages)))

-- one of the two begins with the other
abbrev pub agree : List ℕ → List ℕ → Bool
agree [] others = true
agree (b ∷ bytes) [] = true
agree (b ∷ bytes) (c ∷ others) = (b == c) && agree bytes others

pub data Kept : Type 0 where
  -- the texts that have ended, the lines of the one that is open, and the bytes of the line that is open
  Reading : List (List (List ℕ)) → Option (List (List ℕ)) → List ℕ → Kept
  Failed : MboxError → Kept

abbrev pub has_failed : Kept → Bool
has_failed (Reading texts text line) = false
has_failed (Failed error) = true

abbrev pub kept_of : List (List (List ℕ)) → List ℕ → Kept
kept_of messages line = Reading (map text_of (ended_parts messages)) (open_text messages) line

-- what the definition of a mailbox leaves of the bytes so far
abbrev pub kept_after : List ℕ → Kept
kept_after bytes =
    if agree bytes (codes "From ") then kept_of (messages_of (ended_lines bytes)) (open_part (parts_of bytes))
    else Failed NoFromLine

-- inner: what a reader's fields keep
abbrev pub kept_by : Option MboxError → List (List (List ℕ)) → Option (List (List ℕ)) → List ℕ → Kept
kept_by None texts text line = Reading texts text line
kept_by (Some error) texts text line = Failed error

-- inner: what one more line makes of the texts that have ended and of the one that is open

abbrev pub ended_text : Option (List (List ℕ)) → List (List (List ℕ))
ended_text None = []
ended_text (Some lines) = without_last_empty lines ∷ []

abbrev pub texts_with : List (List (List ℕ)) → Option (List (List ℕ)) → List ℕ → List (List (List ℕ))
texts_with texts text line = if begins_message line then texts ++ ended_text text else texts

abbrev pub text_with : Option (List (List ℕ)) → List ℕ → Option (List (List ℕ))
text_with text line = if begins_message line then Some [] else option_map (λ lines. lines ++ unquoted line ∷ []) text

-- whether the mailbox has begun: a message has, or no byte came, or the open line begins one
abbrev pub is_begun : Option (List (List ℕ)) → List ℕ → Bool
is_begun (Some text) line = true
is_begun None [] = true
is_begun None (b ∷ bytes) = begins_message (b ∷ bytes)

-- whether a piece may come next: a message has begun, or the piece goes on with what the first line starts with
abbrev pub goes_on : Bool → List ℕ → List ℕ → Bool
goes_on has_text line piece = if has_text then true else agree piece (drop (min (length line) 5) (codes "From "))

-- all texts, if the open line is the last one
abbrev pub all_texts : List (List (List ℕ)) → Option (List (List ℕ)) → List ℕ → List (List (List ℕ))
all_texts texts text [] = texts ++ ended_text text
all_texts texts text (b ∷ bytes) = texts_with texts text (b ∷ bytes) ++ ended_text (text_with text (b ∷ bytes))

-- what is kept of bytes that may go on
pub record IsKept (bytes : List ℕ) (texts : List (List (List ℕ))) (text : Option (List (List ℕ))) (line : List ℕ) : Type 0 where
  pub texts_are : texts ≡ map text_of (ended_parts (messages_of (ended_lines bytes)))
  pub text_is : text ≡ open_text (messages_of (ended_lines bytes))
  pub line_is : line ≡ open_part (parts_of bytes)
