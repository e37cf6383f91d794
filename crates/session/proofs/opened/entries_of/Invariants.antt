use Rattle.std.proofs.Common.{◌≡◌, take, length}
use Rattle.std.specs.Prelude.{map, vec_capacity}
use Rattle.session.specs.OpenMessages.{open_message_of}
use Rattle.session.proofs.opened.entries_of.Given as goal

abbrev pub invariant-loop-message : goal.invariant-loop-message
invariant-loop-message g l = record {
  made : l.entries.items ≡ map open_message_of (take l.message-index l.messages);
  room : vec_capacity l.entries ≡ length l.messages;
}
