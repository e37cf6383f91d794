use Rattle.std.proofs.Common.{◌≡◌, ◌++◌, length}
use Rattle.std.specs.List.{flat_map}
use Rattle.ledger.specs.Payloads.{long_string}
use Rattle.ledger.specs.Fitting.{FitAll, FitsLine, IsShort}
use Rattle.ledger.proofs.payload.Payload.put_lines.Given as goal

-- what is written, and what is still to be written
abbrev pub invariant-loop-line : goal.invariant-loop-line
invariant-loop-line g l = record {
  written : l.self ++ flat_map long_string l.lines ≡ l.fn.self ++ flat_map long_string l.text;
  short : FitAll IsShort l.lines;
  fits : FitAll FitsLine l.lines → FitAll FitsLine l.text;
}

abbrev pub decreases-loop-line : goal.decreases-loop-line
decreases-loop-line g l = length l.lines
