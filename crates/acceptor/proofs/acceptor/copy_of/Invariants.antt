use Rattle.std.proofs.Common.{◌≡◌, ◌++◌}
use Rattle.acceptor.specs.Fields.{pvalues_of}
use Rattle.acceptor.proofs.acceptor.copy_of.Given as goal

abbrev pub invariant-loop-slot : goal.invariant-loop-slot
invariant-loop-slot g l = l.copies.items ++ pvalues_of l.slot-iterator ≡ pvalues_of l.accepted.entries
