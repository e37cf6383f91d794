use Rattle.std.proofs.Common.{◌+◌, ◌<◌, ℕ, drop}
use Rattle.records.specs.Files.{IsBad}
use Rattle.records.proofs.search.pass_over.Given as goal

abbrev pub invariant-loop-k : goal.invariant-loop-k
invariant-loop-k l = (j : ℕ) → j < l.k → IsBad l.salt (l.at + j) (drop j l.bytes)
