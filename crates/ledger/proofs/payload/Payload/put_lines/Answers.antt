use Rattle.std.proofs.Common.{◌++◌}
use Rattle.std.specs.List.{flat_map}
use Rattle.ledger.specs.Payloads.{long_string}
use Rattle.ledger.specs.Fitting.{FitsLine}
use Rattle.ledger.proofs.Lines.{is_line_true}
use Rattle.ledger.proofs.Writing.{next_written}
use Rattle.ledger.proofs.payload.Payload.put_lines.Goals as goal

pub loop-line-preserved : goal.loop-line-preserved
loop-line-preserved g c =
    let is = c.in-Some.ensures.0 in
    let short = rw is at c.loop-line.invariant.short in
    let line : FitsLine c.in-Some.line.now = record { length = short.0; rule = is_line_true c.in-Some.line.now c.in-Some.ensures.1 } in
    record {
      written = rw (c.in_ok-put_line.ensures) (next_written long_string c.loop-line.self c.in-Some.line.now c.next_line.new.self c.loop-line.lines (c.args.self.now ++ flat_map long_string c.args.text.now) is c.loop-line.invariant.written);
      short = short.1;
      fits = λ rest. c.loop-line.invariant.fits (rw is (line, rest));
    }
