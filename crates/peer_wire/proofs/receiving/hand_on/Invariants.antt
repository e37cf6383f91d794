use Rattle.std.proofs.Common.{◌≤◌, length, drop}
use Rattle.peer_wire.specs.Streams.{IsHandedOn}
use Rattle.peer_wire.proofs.receiving.hand_on.Given as goal

abbrev pub invariant-loop : goal.invariant-loop
invariant-loop g l = record {
  within : l.used ≤ length l.bytes;
  few : l.count ≤ l.used;
  turns : l.counter ≤ l.used;
  handed : IsHandedOn l.longest g.I.Inbox.hears l.fn.inbox l.inbox l.bytes (drop l.used l.bytes) l.count;
}
