use Rattle.std.proofs.Common.{◌≡◌, length}
use Rattle.store.proofs.Loads.{IsTaken}
use Rattle.store.proofs.loading.Loader.take_batch.Given as goal

abbrev pub invariant-loop-payload : goal.invariant-loop-payload
invariant-loop-payload l = IsTaken l.content l.rest l.initial.self l.self × (l.self.number ≡ l.initial.self.number)

abbrev pub decreases-loop-payload : goal.decreases-loop-payload
decreases-loop-payload l = length l.rest
