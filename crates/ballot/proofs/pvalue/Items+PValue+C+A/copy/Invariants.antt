use Rattle.std.proofs.Common.{◌≡◌, take}
use Rattle.ballot.proofs.pvalue.Items+PValue+C+A.copy.Given as goal

abbrev pub invariant-loop-pvalue : goal.invariant-loop-pvalue
invariant-loop-pvalue g l = l.copies.items ≡ take l.pvalue-index l.pvalue-items
