use Rattle.std.proofs.lemmas.Result.{err_from_is_err_and}
use Rattle.peer_frames.specs.Reading.{pvalue_at, many_at}
use Rattle.peer_frames.proofs.Loops.{goes_on, ends, is_done}
use Rattle.peer_frames.proofs.cursor.Cursor.read_pvalue_list.Goals as goal

pub returns-in_err-pvalue : goal.returns-in_err-pvalue
returns-in_err-pvalue g c =
    let p = err_from_is_err_and c.from_residual-in_err-pvalue.result c.from_residual-in_err-pvalue.ensures.1 in
    rw (p.1, p.2) (ends (pvalue_at {A = g.row.A.Denot} c.args.version) c.in_err-pvalue.field-0.0 c.loop.pvalues.items c.args.count c.loop.counter c.loop.self (many_at (pvalue_at {A = g.row.A.Denot} c.args.version) c.args.count c.args.self.now) c.loop-test.true c.in_err-pvalue.ensures c.loop.invariant)

pub loop-preserved : goal.loop-preserved
loop-preserved g c =
    rw (c.in_ok-push.ensures.items) (goes_on (pvalue_at {A = g.row.A.Denot} c.args.version) c.loop.pvalues.items c.args.count c.loop.counter c.loop.self c.in_ok-pvalue.pvalue c.read_pvalue.new.self (many_at (pvalue_at {A = g.row.A.Denot} c.args.version) c.args.count c.args.self.now) c.loop-test.true c.in_ok-pvalue.ensures c.loop.invariant)

pub returns : goal.returns
returns g c = is_done (pvalue_at {A = g.row.A.Denot} c.args.version) c.loop.pvalues.items c.args.count c.loop.counter c.loop.self (many_at (pvalue_at {A = g.row.A.Denot} c.args.version) c.args.count c.args.self.now) c.loop-test.false c.loop.invariant
