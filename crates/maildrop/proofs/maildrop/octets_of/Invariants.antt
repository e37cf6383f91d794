use Rattle.std.proofs.Common.{◌≡◌, ◌+◌, drop}
use Rattle.maildrop.specs.Taken.{message_octets}
use Rattle.maildrop.proofs.maildrop.octets_of.Given as goal

abbrev pub invariant-loop-message : goal.invariant-loop-message
invariant-loop-message g l = l.octets + message_octets (drop l.message-index l.messages) ≡ message_octets l.messages
