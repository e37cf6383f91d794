use Rattle.std.proofs.Common.{◌≡◌, ℕ, length, Some}
use Rattle.std.specs.Prelude.{slice_get}
use Rattle.audit.proofs.pass.none_answered.Given as goal

abbrev pub invariant-loop : goal.invariant-loop
invariant-loop g l = record {
  count : length l.answered.items ≡ l.counter;
  none : (i k : ℕ) → slice_get l.answered.items i ≡ Some k → k ≡ 0;
}
