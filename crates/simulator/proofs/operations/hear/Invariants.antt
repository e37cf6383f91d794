use Rattle.std.proofs.Common.{◌≤◌, ◌<◌, ℕ, List}
use Rattle.maildrop.specs.CommandId.{CommandId}
use Rattle.simulator.specs.Following.{IsFollowed, IsHeard}
use Rattle.simulator.proofs.operations.hear.Given as goal

-- the nodes so far were heard
abbrev pub invariant-loop-number : goal.invariant-loop-number
invariant-loop-number l = (ids : List CommandId) → IsFollowed l.world.world ids l.fn.waiting → IsFollowed l.world.world ids l.waiting × ((node : ℕ) → 1 ≤ node → node < l.number → IsHeard l.world.world ids l.waiting node)
