use Rattle.std.proofs.Common.{◌≡◌}
use Rattle.node.specs.Replay.{sent_from}
use Rattle.node.proofs.outputs.sent_from.Given as goal

abbrev pub invariant-loop-outgoing : goal.invariant-loop-outgoing
invariant-loop-outgoing g l = record {
  can_next : (goal.iterator-loop-outgoing g).can_next l.outgoing-iterator;
  finite : (goal.iterator-loop-outgoing g).is_finite l.outgoing-iterator;
  so_far : l.envelopes.items ≡ sent_from l.me l.yielded;
}
