use Rattle.std.proofs.Common.{◌≡◌, drop}
use Rattle.records.specs.Heads.{agree}
use Rattle.records.proofs.head.agree.Given as goal

-- what is left decides
abbrev pub invariant-loop-i : goal.invariant-loop-i
invariant-loop-i l = agree l.bytes l.others ≡ agree (drop l.i l.bytes) (drop l.i l.others)
