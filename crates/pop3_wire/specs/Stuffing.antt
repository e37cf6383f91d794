-- Texts on the wire (RFC 1939 section 3, multi-line responses).
use Rattle.std.specs.Prelude.{◌≡◌, ℕ, ◌==◌, List, [], ◌∷◌, ◌++◌, codes, take, Option, None, Some, if◌then◌else◌}
use Rattle.std.specs.List.{All, flat_map}
use Rattle.maildrop.specs.Text.{IsLine, begins_with_dot}

-- a line that begins with a dot has one more in front
abbrev pub stuffed_line : List ℕ → List ℕ
stuffed_line line = if begins_with_dot line then 46 ∷ line else line

-- the line that is stuffed so, if there is one
abbrev pub unstuffed_line : List ℕ → Option (List ℕ)
unstuffed_line [] = Some []
unstuffed_line (b ∷ bytes) =
    if b == 46 then (if begins_with_dot bytes then Some bytes else None) else Some (b ∷ bytes)

abbrev pub wire_line : List ℕ → List ℕ
wire_line line = (if begins_with_dot line then 46 ∷ line else line) ++ codes "\r\n"

-- each line, and then a dot alone
abbrev pub wire_form : List (List ℕ) → List ℕ
wire_form text = flat_map wire_line text ++ codes ".\r\n"

-- the lines up to and including the first empty one, and as many more: a text without an empty line is all headers
abbrev pub top_lines : ℕ → List (List ℕ) → List (List ℕ)
top_lines lines [] = []
top_lines lines ([] ∷ text) = [] ∷ take lines text
top_lines lines ((b ∷ bytes) ∷ text) = (b ∷ bytes) ∷ top_lines lines text

-- the lines of a text as they stand on the wire, without the dot that ends them
abbrev pub AreStuffed : List ℕ → Type 0
AreStuffed bytes = (text : List (List ℕ)) × (All IsLine text × (bytes ≡ flat_map wire_line text))

-- no front of the bytes is a wire form
abbrev pub BeginsWithNone : List ℕ → Type 0
BeginsWithNone bytes = (text : List (List ℕ)) (rest : List ℕ) → All IsLine text → ¬ (bytes ≡ wire_form text ++ rest)

-- the bytes begin with the stuffed lines of a text and the dot that ends them, and with no other wire form
pub record BeginsWithOne (bytes stuffed behind : List ℕ) : Type 0 where
  pub are_stuffed : AreStuffed stuffed
  pub ends : bytes ≡ stuffed ++ codes ".\r\n" ++ behind
  pub alone : (text : List (List ℕ)) (rest : List ℕ) → All IsLine text → bytes ≡ wire_form text ++ rest → (stuffed ≡ flat_map wire_line text) × (behind ≡ rest)
