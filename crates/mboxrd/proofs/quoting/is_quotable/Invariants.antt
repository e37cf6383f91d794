use Rattle.std.proofs.Common.{◌≡◌, drop}
use Rattle.mboxrd.specs.Mailbox.{is_quotable}
use Rattle.mboxrd.proofs.quoting.is_quotable.Given as goal

-- what is left decides
abbrev pub invariant-loop-i : goal.invariant-loop-i
invariant-loop-i l = is_quotable l.line ≡ is_quotable (drop l.i l.line)
