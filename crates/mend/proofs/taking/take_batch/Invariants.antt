use Rattle.std.proofs.Common.{length}
use Rattle.mend.proofs.Takings.{IsPart}
use Rattle.mend.proofs.taking.take_batch.Given as goal

abbrev pub invariant-loop-payload : goal.invariant-loop-payload
invariant-loop-payload l = IsPart l.content l.rest l.initial.kept l.kept

abbrev pub decreases-loop-payload : goal.decreases-loop-payload
decreases-loop-payload l = length l.rest
