-- The lines of a stream.
use Rattle.std.specs.Prelude.{ℕ, ◌==◌, nat_lt, Bool, List, [], ◌∷◌, length, map, if◌then◌else◌}
use Rattle.std.specs.List.{slice_split}
use Rattle.pop3_wire.specs.Limits.{longest_line}
use Rattle.pop3_wire.specs.declared.line.Line.{Line}
use Rattle.pop3_wire.specs.declared.line.Line.TheVariants.{Whole, TooLong}

abbrev pub is_lf : ℕ → Bool
is_lf b = b == 10

-- the parts but for the last
abbrev pub all_but_last : List (List ℕ) → List (List ℕ)
all_but_last [] = []
all_but_last (part ∷ []) = []
all_but_last (part ∷ next ∷ parts) = part ∷ all_but_last (next ∷ parts)

-- what stands before each LF, from the one before it on: what stands after the last has not ended, and is no line
abbrev pub ended_lines : List ℕ → List (List ℕ)
ended_lines stream = all_but_last (slice_split is_lf stream)

-- without one CR at the end
abbrev pub without_cr : List ℕ → List ℕ
without_cr [] = []
without_cr (b ∷ []) = if b == 13 then [] else b ∷ []
without_cr (b ∷ c ∷ bytes) = b ∷ without_cr (c ∷ bytes)

-- with its LF a line has at most 512 octets
abbrev pub line_of : List ℕ → Line
line_of bytes = if nat_lt longest_line (length bytes) then TooLong else Whole (without_cr bytes)

abbrev pub lines_of : List ℕ → List Line
lines_of stream = map line_of (ended_lines stream)
