use Rattle.std.proofs.lemmas.Result.{err_from_is_err_and}
use Rattle.ledger.specs.Reading.{line_at, many_at}
use Rattle.ledger.proofs.Loops.{goes_on, ends_malformed, is_done}
use Rattle.ledger.proofs.cursor.Cursor.read_lines.Goals as goal

pub returns-in_err-line : goal.returns-in_err-line
returns-in_err-line g c =
    let p = err_from_is_err_and c.from_residual-in_err-line.result c.from_residual-in_err-line.ensures.1 in
    rw (p.1, p.2) (ends_malformed line_at c.in_err-line.field-0.0 c.loop.text.lines c.args.count c.loop.counter c.loop.self (many_at line_at c.args.count c.args.self.now) c.loop-test.true c.in_err-line.ensures.value c.loop.invariant)

pub loop-preserved : goal.loop-preserved
loop-preserved g c =
    rw (c.in_ok-push_line.ensures.ok) (goes_on line_at c.loop.text.lines c.args.count c.loop.counter c.loop.self c.in_ok-line.line.now c.read_line.new.self (many_at line_at c.args.count c.args.self.now) c.loop-test.true c.in_ok-line.ensures.value c.loop.invariant)

pub returns : goal.returns
returns g c = is_done line_at c.loop.text.lines c.args.count c.loop.counter c.loop.self (many_at line_at c.args.count c.args.self.now) c.loop-test.false c.loop.invariant
