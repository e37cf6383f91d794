use Rattle.std.proofs.Common.{◌≡◌, take}
use Rattle.mboxrd.specs.Mailbox.{written_of}
use Rattle.mboxrd.proofs.writing.write.Given as goal

-- the texts so far
abbrev pub invariant-loop-text : goal.invariant-loop-text
invariant-loop-text g l = l.bytes.items ≡ written_of l.from_line (take l.text-index l.texts)
