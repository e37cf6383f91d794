use Rattle.std.proofs.Common.{◌≡◌, ◌+◌, ◌-◌, ◌≤◌, length}
use Rattle.std.specs.declared.alloc.Global.{Global}
use Rattle.maildrop.specs.Kept.{KeptTable}
use Rattle.mend.specs.Taking.{AreTaken}
use Rattle.mend.specs.Finding.{found, found_from, missed, missed_from}
use Rattle.mend.proofs.search.salvage.Given as goal

-- what is found from here on makes all of it
abbrev pub invariant-loop : goal.invariant-loop
invariant-loop l = record {
  within : length l.rest ≤ length l.bytes - l.from;
  few : l.findings.dropped + length l.rest ≤ length l.bytes - l.from;
  missed : missed_from l.head.salt l.from l.bytes ≤ l.findings.dropped + missed (length l.bytes - l.counter) l.head.salt (length l.bytes) l.rest;
  taken : (new : KeptTable Global) → AreTaken l.head.is_batched (found (length l.bytes - l.counter) l.head.salt (length l.bytes) l.rest) l.kept new
      → AreTaken l.head.is_batched (found_from l.head.salt l.from l.bytes) l.initial.kept new;
}
