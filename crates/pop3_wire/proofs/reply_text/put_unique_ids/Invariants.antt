use Rattle.std.proofs.Common.{◌≡◌, ◌++◌, take}
use Rattle.std.specs.List.{flat_map}
use Rattle.pop3_wire.specs.Reply.{number_line}
use Rattle.pop3_wire.proofs.reply_text.put_unique_ids.Given as goal

abbrev pub invariant-loop-message : goal.invariant-loop-message
invariant-loop-message g l = l.text.items ≡ l.initial.text.items ++ flat_map (λ message. number_line message.number message.uid) (take l.message-index l.messages)
