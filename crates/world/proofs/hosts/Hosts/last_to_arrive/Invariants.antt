use Rattle.std.proofs.Common.{◌≤◌, length}
use Rattle.world.specs.Hosts.{network_of}
use Rattle.world.specs.Scheduling.{IsQuiet}
use Rattle.world.proofs.hosts.Hosts.last_to_arrive.Given as goal

abbrev pub invariant-loop-end : goal.invariant-loop-end
invariant-loop-end g l = record { within : l.end ≤ length l.self.sent; quiet : IsQuiet (network_of l.self) l.copies l.end (length l.self.sent) }

abbrev pub decreases-loop-end : goal.decreases-loop-end
decreases-loop-end g l = l.end
