use Rattle.std.proofs.Common.{◌≡◌, drop}
use Rattle.audit.specs.Same.{same_pvalues}
use Rattle.audit.proofs.envelope.same_pvalues.Given as goal

-- what is left decides
abbrev pub invariant-loop-i : goal.invariant-loop-i
invariant-loop-i g l = same_pvalues (drop l.i l.pvalues) (drop l.i l.others) ≡ same_pvalues l.pvalues l.others
