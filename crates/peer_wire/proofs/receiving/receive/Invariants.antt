use Rattle.std.proofs.Common.{◌+◌, ◌*◌, ◌≤◌, length}
use Rattle.peer_wire.specs.Streams.{IsPart}
use Rattle.peer_wire.proofs.FramesInARow.{IsRead}
use Rattle.peer_wire.proofs.receiving.receive.Given as goal

abbrev pub invariant-loop : goal.invariant-loop
invariant-loop g l = record {
  few : l.count + length l.bytes.items ≤ l.counter * 16384;
  part : IsPart g.row.A.Denot l.longest l.bytes.items;
  read : IsRead l.longest g.I.Inbox.hears l.fn.inbox l.inbox (g.S.Read.remaining l.fn.reader) (g.S.Read.remaining l.reader) l.bytes.items l.count;
}
