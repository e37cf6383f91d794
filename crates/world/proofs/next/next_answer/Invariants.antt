use Rattle.std.proofs.Common.{◌-◌, length}
use Rattle.world.specs.Scheduling.{NoneAnswered}
use Rattle.world.proofs.next.next_answer.Given as goal

abbrev pub invariant-loop-place : goal.invariant-loop-place
invariant-loop-place g l = NoneAnswered l.hosts l.connections.entries l.place

abbrev pub decreases-loop-place : goal.decreases-loop-place
decreases-loop-place g l = length l.connections.entries - l.place
