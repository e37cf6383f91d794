use Rattle.std.proofs.Common.{◌≡◌, ◌+◌, ℕ, true, take}
use Rattle.maildrop.specs.CommandId.{CommandId}
use Rattle.node.specs.Replay.{mail_rules}
use Rattle.replica.specs.Replicas.{has_identity}
use Rattle.world.specs.Waiting.{MayHave, IsWatched, WatchesBut, nowhere}
use Rattle.world.proofs.waiting.Waiting.hear_all.Given as goal

-- whoever awaits one of those so far may have the answer
abbrev pub invariant-loop-command : goal.invariant-loop-command
invariant-loop-command g l = record {
  others : WatchesBut nowhere l.initial.self l.self;
  own : (id : CommandId) → id.ticket.node ≡ l.node + 1 → has_identity mail_rules id (take l.command-index l.news) ≡ true → (place : ℕ) → IsWatched l.initial.self place id → MayHave l.self place;
}
