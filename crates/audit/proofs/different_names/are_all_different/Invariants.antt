use Rattle.std.proofs.Common.{◌≡◌, drop}
use Rattle.maildrop.specs.Name.{are_different}
use Rattle.audit.proofs.DifferentNames.{differ_from}
use Rattle.audit.proofs.different_names.are_all_different.Given as goal

-- the names from i on decide
abbrev pub invariant-loop-i : goal.invariant-loop-i
invariant-loop-i g l = are_different l.names ≡ differ_from l.seen (drop l.i l.names)
