use Rattle.std.proofs.Common.{◌≡◌}
use Rattle.runs.specs.Worlds.{settled}
use Rattle.world.proofs.world.World.settle.Given as goal

abbrev pub invariant-loop-events : goal.invariant-loop-events
invariant-loop-events g l = record {
  so_far : settled l.events l.fn.self.world ≡ record { events = l.events; world = l.self.world };
  crashed : l.self.crashed ≡ l.fn.self.crashed;
}
