use Rattle.std.proofs.Common.{◌≡◌}
use Rattle.leader.specs.Leaders.{best_pvalues}
use Rattle.leader.proofs.adopting.best_of.Given as goal

abbrev pub invariant-loop-pvalue : goal.invariant-loop-pvalue
invariant-loop-pvalue g l = record {
  can_next : (goal.iterator-loop-pvalue g).can_next l.pvalue-iterator;
  finite : (goal.iterator-loop-pvalue g).is_finite l.pvalue-iterator;
  so_far : l.best.entries ≡ best_pvalues l.yielded;
}
