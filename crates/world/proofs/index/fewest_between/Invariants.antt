use Rattle.std.proofs.Common.{◌-◌}
use Rattle.runs.specs.Messages.{Network}
use Rattle.world.specs.Scheduling.{HaveArrived, AreFewest}
use Rattle.world.proofs.index.fewest_between.Given as goal

abbrev pub invariant-loop-place : goal.invariant-loop-place
invariant-loop-place g l = (w : Network g.row.A.Denot) → AreFewest w l.index.items → HaveArrived w l.fewest l.from l.place

abbrev pub decreases-loop-place : goal.decreases-loop-place
decreases-loop-place g l = l.to - l.place
