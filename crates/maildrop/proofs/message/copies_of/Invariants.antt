use Rattle.std.proofs.Common.{◌≡◌, take, length}
use Rattle.std.specs.Prelude.{vec_capacity}
use Rattle.maildrop.proofs.message.copies_of.Given as goal

abbrev pub invariant-loop-message : goal.invariant-loop-message
invariant-loop-message g l = record {
  copied : l.copies.items ≡ take l.message-index l.messages;
  room : vec_capacity l.copies ≡ length l.messages;
}
