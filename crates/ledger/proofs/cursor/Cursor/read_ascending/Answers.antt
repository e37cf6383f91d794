use Rattle.std.proofs.Common.{None}
use Rattle.std.proofs.lemmas.Result.{err_from_is_err_and}
use Rattle.ledger.specs.Reading.{uids_from}
use Rattle.ledger.proofs.Loops.{uid_goes_on, uid_ends, uid_is_done}
use Rattle.ledger.proofs.cursor.Cursor.read_ascending.Goals as goal

pub returns-in_err-uid : goal.returns-in_err-uid
returns-in_err-uid g c =
    let p = err_from_is_err_and c.from_residual-in_err-uid.result c.from_residual-in_err-uid.ensures.1 in
    rw (p.1, p.2) (uid_ends c.in_err-uid.field-0.0 c.loop.last c.loop.uids.items c.args.count c.loop.counter c.loop.self (uids_from None c.args.count c.args.self.now) c.loop-test.true c.in_err-uid.ensures c.loop.invariant)

pub loop-preserved : goal.loop-preserved
loop-preserved g c =
    rw (c.in_ok-push.ensures.items) (uid_goes_on c.loop.last c.loop.uids.items c.args.count c.loop.counter c.loop.self c.in_ok-uid.uid c.read_uid.new.self (uids_from None c.args.count c.args.self.now) c.loop-test.true c.in_ok-uid.ensures c.loop.invariant)

pub returns : goal.returns
returns g c = uid_is_done c.loop.last c.loop.uids.items c.args.count c.loop.counter c.loop.self (uids_from None c.args.count c.args.self.now) c.loop-test.false c.loop.invariant
