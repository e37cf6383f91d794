use Rattle.std.proofs.Common.{◌≡◌, take}
use Rattle.mend.specs.Raising.{names_in}
use Rattle.mend.proofs.raising.names_of.Given as goal

-- the names so far
abbrev pub invariant-loop-i : goal.invariant-loop-i
invariant-loop-i l = l.names.items ≡ take l.i (names_in l.kept)
