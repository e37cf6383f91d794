use Rattle.std.proofs.Common.{◌≡◌, ◌+◌, ◌<◌, ℕ, drop, false}
use Rattle.std.specs.Prelude.{is_some}
use Rattle.records.specs.Reading.{record_at}
use Rattle.records.proofs.search.resumes.Given as goal

abbrev pub invariant-loop-k : goal.invariant-loop-k
invariant-loop-k l = (j : ℕ) → j < l.k → is_some (record_at l.salt (l.at + j) (drop j l.bytes)) ≡ false
