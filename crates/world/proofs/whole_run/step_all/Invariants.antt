use Rattle.std.proofs.Common.{◌≡◌, None}
use Rattle.runs.specs.Settling.{ran, first_refusal}
use Rattle.world.proofs.whole_run.step_all.Given as goal

abbrev pub invariant-loop-event : goal.invariant-loop-event
invariant-loop-event g l = record {
  can_next : (goal.iterator-loop-event g).can_next l.event-iterator;
  finite : (goal.iterator-loop-event g).is_finite l.event-iterator;
  so_far : l.world.world ≡ ran l.initial.world.world l.yielded;
  possible : first_refusal l.initial.world.world l.yielded ≡ None;
}
