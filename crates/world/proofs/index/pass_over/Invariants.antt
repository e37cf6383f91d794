use Rattle.world.specs.Hosts.{network_of}
use Rattle.world.specs.Scheduling.{AreFewest}
use Rattle.world.proofs.index.pass_over.Given as goal

abbrev pub invariant-loop-place : goal.invariant-loop-place
invariant-loop-place g l = AreFewest (network_of l.nodes) l.index.items
