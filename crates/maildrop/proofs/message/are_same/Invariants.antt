use Rattle.std.proofs.Common.{◌≡◌, drop}
use Rattle.maildrop.specs.Same.{same_messages}
use Rattle.maildrop.proofs.message.are_same.Given as goal

-- what is left decides
abbrev pub invariant-loop-i : goal.invariant-loop-i
invariant-loop-i g l = same_messages (drop l.i l.messages) (drop l.i l.others) ≡ same_messages l.messages l.others
