use Rattle.std.proofs.Common.{◌≡◌, ◌≤◌, true, ℕ, List, Some}
use Rattle.std.specs.Io.Buffered.{reader_buffer, reader_remaining}
use Rattle.std.specs.List.{list_any}
use Rattle.memchr.specs.Find.{is_byte}
use Rattle.simulator.specs.Reading.{IsBegun}
use Rattle.simulator.proofs.reading.read_line.Given as goal

-- the line so far, and what is left of it
abbrev pub invariant-loop-reader : goal.invariant-loop-reader
invariant-loop-reader g l = record {
  known : (bytes : List ℕ) → reader_remaining g.R.Read.remaining l.initial.reader ≡ Some bytes → IsBegun bytes l.line.items (reader_remaining g.R.Read.remaining l.reader);
  bound : l.reads_left ≤ l.initial.reads_left;
  held : list_any (is_byte 10) (reader_buffer l.initial.reader) ≡ true → (l.reads_left ≡ l.initial.reads_left) × (list_any (is_byte 10) (reader_buffer l.reader) ≡ true);
}

abbrev pub decreases-loop-reader : goal.decreases-loop-reader
decreases-loop-reader g l = l.reads_left
