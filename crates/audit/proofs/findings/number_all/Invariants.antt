use Rattle.std.proofs.Common.{◌≡◌, ℕ, length, Some}
use Rattle.std.specs.Prelude.{slice_get}
use Rattle.node.specs.declared.log.NodeLog.{NodeLog}
use Rattle.audit.specs.Numbers.{AreNumbered}
use Rattle.audit.specs.declared.numbers.Numbers.{Numbers}
use Rattle.audit.proofs.findings.number_all.Given as goal

abbrev pub invariant-loop-place : goal.invariant-loop-place
invariant-loop-place g l = record {
  count : length l.numbers.items ≡ l.place;
  each : (n : ℕ) (its : Numbers g.row.A.Denot) → slice_get l.numbers.items n ≡ Some its → (log : NodeLog g.row.A.Denot) → slice_get l.logs n ≡ Some log → AreNumbered log (length log.inputs) its.tickets.items its.places.entries;
}
