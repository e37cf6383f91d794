-- What is kept of a stream that comes in pieces.
use Rattle.std.specs.Prelude.{◌≡◌, ℕ, ◌+◌, List, [], ◌∷◌, ◌++◌, length, take, fold, Option, None, Some, if◌then◌else◌}
use Rattle.std.specs.Option.{option_to_list}
use Rattle.std.specs.Io.BufRead.{take_through}
use Rattle.std.specs.List.{list_any, before_first, slice_split}
use Rattle.pop3_wire.specs.Limits.{longest_line}
use Rattle.pop3_wire.specs.declared.line.Line.{Line}
use Rattle.pop3_wire.specs.Lines.{is_lf, line_of, lines_of}

-- the open line, or a finished one that waits to be taken out
pub data Kept : Type 0 where
  -- of a line that has not ended the first bytes, one more than the longest has: such a line is too long, whatever comes
  Open : List ℕ → Kept
  Finished : Line → Kept

-- of the parts between LFs the last is the open line; if it is empty, the part before it has just ended
abbrev pub kept_of : List (List ℕ) → Kept
kept_of [] = Open []
kept_of (part ∷ []) = Open (take (longest_line + 1) part)
kept_of (part ∷ [] ∷ []) = Finished (line_of part)
kept_of (part ∷ next ∷ parts) = kept_of (next ∷ parts)

-- what the definition of lines leaves of the bytes so far
abbrev pub kept_after : List ℕ → Kept
kept_after bytes = kept_of (slice_split is_lf bytes)

-- how many bytes of a piece are taken: up to the first LF and with it, and none while a line waits
abbrev pub taken : Kept → List ℕ → ℕ
taken (Open bytes) piece = length (take_through 10 piece)
taken (Finished line) piece = 0

-- what is kept once so many bytes of a piece are taken
abbrev pub fed : Kept → List ℕ → Kept
fed (Open bytes) piece =
    if list_any is_lf piece then Finished (line_of (bytes ++ before_first is_lf piece))
    else Open (take (longest_line + 1) (bytes ++ piece))
fed (Finished line) piece = Finished line

-- the line that waits
abbrev pub waiting : Kept → Option Line
waiting (Open bytes) = None
waiting (Finished line) = Some line

-- what is kept once that line is taken out
abbrev pub taken_out : Kept → Kept
taken_out (Open bytes) = Open bytes
taken_out (Finished line) = Open []

-- the lines that come of what is kept and these bytes
abbrev pub lines_after : Kept → List ℕ → List Line
lines_after (Open bytes) more = lines_of (bytes ++ more)
lines_after (Finished line) more = line ∷ lines_of more

-- the calls of a reader
pub data Call : Type 0 where
  Feed : List ℕ → Call
  NextLine : Call

-- what a reader keeps after some calls, the bytes that they took and the lines that they took out
pub record Run : Type 0 where
  pub kept : Kept
  pub bytes : List ℕ
  pub lines : List Line

abbrev pub after_call : Run → Call → Run
after_call run (Feed piece) = record run { kept = fed run.kept piece; bytes = run.bytes ++ take (taken run.kept piece) piece }
after_call run NextLine = record run { kept = taken_out run.kept; lines = run.lines ++ option_to_list (waiting run.kept) }

-- any calls of a new reader, in any order
abbrev pub run_of : List Call → Run
run_of calls = fold after_call (record { kept = Open []; bytes = []; lines = [] }) calls

-- once no line waits, the lines taken out are those of the bytes taken, however these were cut
abbrev pub CutsLines : List Call → Type 0
CutsLines calls = waiting (run_of calls).kept ≡ None → (run_of calls).lines ≡ lines_of (run_of calls).bytes
