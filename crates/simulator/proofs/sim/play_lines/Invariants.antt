use Rattle.std.proofs.Common.{◌≡◌, ℕ, List, Some}
use Rattle.std.specs.Io.Buffered.{reader_remaining}
use Rattle.simulator.specs.Reading.{IsPlayed}
use Rattle.simulator.specs.Runs.{run_of}
use Rattle.simulator.proofs.sim.play_lines.Given as goal

-- as far as the first fault goes, what is left is the same as the whole
abbrev pub invariant-loop-number : goal.invariant-loop-number
invariant-loop-number g l = (bytes : List ℕ) → reader_remaining g.R.Read.remaining l.initial.reader ≡ Some bytes
    → IsPlayed bytes 1 (run_of l.initial.run) (g.W.Write.contents l.initial.writer) l.initial.run.report (reader_remaining g.R.Read.remaining l.reader) l.number (run_of l.run) (g.W.Write.contents l.writer) l.run.report
