use Rattle.std.proofs.Common.{◌≡◌, ◌++◌}
use Rattle.runs.specs.Messages.{newly_sent}
use Rattle.world.proofs.sent_messages.add.Given as goal

abbrev pub invariant-loop-envelope : goal.invariant-loop-envelope
invariant-loop-envelope g l = record {
  can_next : (goal.iterator-loop-envelope g).can_next l.envelope-iterator;
  finite : (goal.iterator-loop-envelope g).is_finite l.envelope-iterator;
  so_far : l.sent.items ≡ l.initial.sent.items ++ newly_sent l.yielded;
}
