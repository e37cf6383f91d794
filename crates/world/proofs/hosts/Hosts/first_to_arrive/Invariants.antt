use Rattle.std.proofs.Common.{◌-◌, ◌≤◌, length}
use Rattle.world.specs.Hosts.{network_of}
use Rattle.world.specs.Scheduling.{IsQuiet}
use Rattle.world.proofs.hosts.Hosts.first_to_arrive.Given as goal

abbrev pub invariant-loop-place : goal.invariant-loop-place
invariant-loop-place g l = record { behind : l.from ≤ l.place; quiet : IsQuiet (network_of l.self) l.copies l.from l.place }

abbrev pub decreases-loop-place : goal.decreases-loop-place
decreases-loop-place g l = length l.self.sent - l.place
