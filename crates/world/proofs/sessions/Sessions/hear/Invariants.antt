use Rattle.std.proofs.Common.{◌≡◌, ℕ, ◌<◌}
use Rattle.world.specs.Waiting.{IsBehind, IsHeard, nowhere}
use Rattle.world.proofs.sessions.Sessions.hear.Given as goal

-- what the nodes so far have performed was heard
abbrev pub invariant-loop-node : goal.invariant-loop-node
invariant-loop-node g l = record {
  entries : l.self.entries ≡ l.initial.self.entries;
  behind : IsBehind nowhere l.hosts l.self.entries l.self.waiting;
  heard : (k : ℕ) → k < l.node → IsHeard l.hosts l.self.waiting k;
}
