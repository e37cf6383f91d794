use Rattle.std.proofs.Common.{◌++◌, length}
use Rattle.std.specs.List.{flat_map}
use Rattle.peer_frames.specs.Frames.{long_string}
use Rattle.peer_frames.specs.Fitting.{FitsLine}
use Rattle.peer_frames.proofs.Lines.{is_line_true}
use Rattle.peer_frames.proofs.Writing.{next_written, next_size}
use Rattle.peer_frames.proofs.content.Content.put_lines.Goals as goal

pub loop-line-preserved : goal.loop-line-preserved
loop-line-preserved g c =
    let is = c.in-Some.ensures.0 in
    let line : FitsLine c.in-Some.line.now = record { length = c.in_ok-put_line.ensures.fits; rule = is_line_true c.in-Some.line.now c.in-Some.ensures.1 } in
    record {
      written = rw (c.in_ok-put_line.ensures.ok) (next_written long_string c.loop-line.self c.in-Some.line.now c.next_line.new.self c.loop-line.lines (c.args.self.now ++ flat_map long_string c.args.text.now) is c.loop-line.invariant.written);
      fits = λ rest. c.loop-line.invariant.fits (rw is (line, rest));
      size = next_size long_string c.in-Some.line.now c.next_line.new.self c.loop-line.lines (length (flat_map long_string c.args.text.now)) is c.loop-line.invariant.size;
    }
