use Rattle.world.specs.Hosts.{network_of}
use Rattle.world.specs.Scheduling.{AreFewest}
use Rattle.world.proofs.index.refresh.Given as goal

abbrev pub invariant-loop-level : goal.invariant-loop-level
invariant-loop-level g l = AreFewest (network_of l.nodes) l.index.items
