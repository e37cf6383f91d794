use Rattle.std.proofs.Common.{◌≡◌, map, take}
use Rattle.runs.specs.Settling.{all_performed}
use Rattle.world.proofs.world.World.all_performed.Given as goal

abbrev pub invariant-loop-place : goal.invariant-loop-place
invariant-loop-place g l = map (λ p. p.items) l.all.items ≡ take l.place (all_performed l.self.world.service)
