use Rattle.std.proofs.Common.{◌≡◌, ◌-◌, None}
use Rattle.ledger.specs.Reading.{uids_from}
use Rattle.ledger.proofs.Loops.{with_front}
use Rattle.ledger.proofs.cursor.Cursor.read_ascending.Given as goal

abbrev pub invariant-loop : goal.invariant-loop
invariant-loop g l = with_front l.uids.items (uids_from l.last (l.count - l.counter) l.self) ≡ uids_from None l.count l.fn.self
