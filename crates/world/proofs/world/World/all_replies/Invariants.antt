use Rattle.std.proofs.Common.{◌≡◌, map, take}
use Rattle.runs.specs.Settling.{all_replies}
use Rattle.world.proofs.world.World.all_replies.Given as goal

abbrev pub invariant-loop-place : goal.invariant-loop-place
invariant-loop-place g l = map (λ r. (r.0, r.1.items)) l.replies.items ≡ take l.place (all_replies l.self.world.service)
