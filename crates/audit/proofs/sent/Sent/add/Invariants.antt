use Rattle.std.proofs.Common.{◌≡◌, ◌++◌}
use Rattle.audit.proofs.sent.Sent.add.Given as goal

abbrev pub invariant-loop-envelope : goal.invariant-loop-envelope
invariant-loop-envelope g l = record {
  can_next : (goal.iterator-loop-envelope g).can_next l.envelope-iterator;
  finite : (goal.iterator-loop-envelope g).is_finite l.envelope-iterator;
  so_far : l.self ≡ l.initial.self ++ l.yielded;
}
