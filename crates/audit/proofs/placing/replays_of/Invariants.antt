use Rattle.std.proofs.Common.{◌≡◌, ℕ, length, Some}
use Rattle.std.specs.Prelude.{slice_get}
use Rattle.audit.specs.Nodes.{Replayed}
use Rattle.audit.specs.Records.{begun_at}
use Rattle.audit.proofs.placing.replays_of.Given as goal

abbrev pub invariant-loop-place : goal.invariant-loop-place
invariant-loop-place g l = record {
  count : length l.replays.items ≡ l.place;
  each : (n : ℕ) (r : Replayed g.row.A.Denot) → slice_get l.replays.items n ≡ Some r → (r.state ≡ begun_at l.logs n (slice_get l.logs n)) × (r.placed ≡ 0);
}
