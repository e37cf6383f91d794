use Rattle.std.proofs.Common.{◌≤◌, ◌-◌, length}
use Rattle.records.specs.Readers.{IsRun}
use Rattle.records.proofs.ends.records_end.Given as goal

abbrev pub invariant-loop-payload : goal.invariant-loop-payload
invariant-loop-payload l = record {
  within : l.end ≤ length l.bytes;
  run : IsRun l.salt l.at l.bytes l.end;
}

abbrev pub decreases-loop-payload : goal.decreases-loop-payload
decreases-loop-payload l = length l.bytes - l.end
