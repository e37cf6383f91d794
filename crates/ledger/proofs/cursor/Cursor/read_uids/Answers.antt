use Rattle.ledger.proofs.Ascending.{uids_ascend}
use Rattle.ledger.proofs.cursor.Cursor.read_uids.Goals as goal

pub unreachable-requires : goal.unreachable-requires
unreachable-requires g c =
    let ascend = uids_ascend c.in_ok-count.count c.read_u32.new.self (c.in_ok-uids.uids.items, c.read_ascending.new.self) (c.in_ok-uids.ensures) in
    cc (c.in-None.ensures.valid.1 ascend)
