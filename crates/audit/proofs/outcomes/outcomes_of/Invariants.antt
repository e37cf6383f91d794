use Rattle.audit.proofs.Answered.{AreOutcomes}
use Rattle.audit.proofs.outcomes.outcomes_of.Given as goal

abbrev pub invariant-loop-replay : goal.invariant-loop-replay
invariant-loop-replay g l = record {
  can_next : (goal.iterator-loop-replay g).can_next l.replay-iterator;
  finite : (goal.iterator-loop-replay g).is_finite l.replay-iterator;
  so_far : AreOutcomes l.yielded l.outcomes.items;
}
