-- Messages that are written in one line.
use Rattle.std.specs.Prelude.{ℕ, ◌==◌, Bool, List}
use Rattle.std.specs.List.{slice_split}

abbrev pub is_bar : ℕ → Bool
is_bar b = b == 124

-- the lines of a message: a bar stands between two
abbrev pub lines_of : List ℕ → List (List ℕ)
lines_of written = slice_split is_bar written
