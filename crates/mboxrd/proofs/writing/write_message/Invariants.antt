use Rattle.std.proofs.Common.{◌≡◌, ◌∷◌, ◌++◌, map}
use Rattle.mboxrd.specs.Mailbox.{file_of, quoted}
use Rattle.mboxrd.proofs.writing.write_message.Given as goal

-- what is written, and what the rest will bring
abbrev pub invariant-loop-line : goal.invariant-loop-line
invariant-loop-line g l = l.bytes.items ++ file_of (map quoted l.line-iterator) ≡ l.fn.bytes.items ++ file_of (l.from_line ∷ map quoted l.initial.line-iterator)
