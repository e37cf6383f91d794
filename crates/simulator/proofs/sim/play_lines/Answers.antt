use Rattle.std.proofs.Common.{rules, ◌≡◌, ◌++◌, true, false, Some, refl, subst}
use Rattle.std.specs.Str.Lines.{lines}
use Rattle.simulator.proofs.Ending.{handed_on}
use Rattle.simulator.specs.Reading.{IsFlushed, IsPlayedLine, IsStopAt, left_of}
use Rattle.simulator.specs.Runs.{run_of}
use Rattle.simulator.specs.Statuses.{fault_from}
use Rattle.simulator.proofs.Flushing.{flushed_nothing}
use Rattle.simulator.proofs.Playing.{ends, flushes, goes_on, refused, stopped}
use Rattle.simulator.proofs.Refusing.{at_number}
use Rattle.simulator.proofs.sim.play_lines.Goals as goal

pub loop-number-init : goal.loop-number-init
loop-number-init g c bytes known = record { rest = bytes; known = known; same = refl; told = flushed_nothing _ _ }

pub returns-in_err-read_line-clause-line : goal.returns-in_err-read_line-clause-line
returns-in_err-read_line-clause-line g c =
    handed_on c.from_residual-in_err-read_line.result c.in_err-read_line.field-0.0 _ c.from_residual-in_err-read_line.ensures.1
    (λ bytes told known line.
    let played = flushes (c.loop-number.invariant bytes known) c.in_ok-write_due.ensures.flushed in
    at_number (λ n. fault_from (lines bytes) 1 c.args.run.now.script ≡ Some n) c.in_err-read_line.field-0.0 c.loop-number.number told c.in_err-read_line.ensures.fault line
    (λ here. (refused played (c.in_err-read_line.ensures.none played.rest played.known here)).0))

pub returns-in_err-read_line-clause-told_before : goal.returns-in_err-read_line-clause-told_before
returns-in_err-read_line-clause-told_before g c =
    handed_on c.from_residual-in_err-read_line.result c.in_err-read_line.field-0.0 _ c.from_residual-in_err-read_line.ensures.1
    (λ bytes told known line.
    let played = flushes (c.loop-number.invariant bytes known) c.in_ok-write_due.ensures.flushed in
    at_number (λ n. IsFlushed (g.W.Write.contents c.args.writer.now) (g.W.Write.contents c.write_due.new.writer) (c.args.run.now.report ++ left_of bytes (run_of c.args.run.now)) c.write_due.new.report) c.in_err-read_line.field-0.0 c.loop-number.number told c.in_err-read_line.ensures.fault line
    (λ here. (refused played (c.in_err-read_line.ensures.none played.rest played.known here)).1))

pub returns-then-not-branch-clause-sound : goal.returns-then-not-branch-clause-sound
returns-then-not-branch-clause-sound g c bytes known =
    let none : c.in_ok-read_line.field-0 ≡ false = search rules in
    let played = flushes (c.loop-number.invariant bytes known) c.in_ok-write_due.ensures.flushed in
    (ends played _ _ _ (c.in_ok-read_line.ensures.known played.rest played.known) none).0

pub returns-then-not-branch-clause-told : goal.returns-then-not-branch-clause-told
returns-then-not-branch-clause-told g c bytes known =
    let none : c.in_ok-read_line.field-0 ≡ false = search rules in
    let played = flushes (c.loop-number.invariant bytes known) c.in_ok-write_due.ensures.flushed in
    (ends played _ _ _ (c.in_ok-read_line.ensures.known played.rest played.known) none).1

pub returns-in-Err-clause-line : goal.returns-in-Err-clause-line
returns-in-Err-clause-line g c bytes number known told =
    let some : c.in_ok-read_line.field-0 ≡ true = search rules in
    let played = flushes (c.loop-number.invariant bytes known) c.in_ok-write_due.ensures.flushed in
    (stopped played _ _ _ _ _ number (c.in_ok-read_line.ensures.known played.rest played.known) some
    (subst (λ l. IsStopAt l c.loop-number.number (run_of c.loop-number.run) c.write_due.new.report c.play_line.new.run.report c.in-Err.fault) c.as_slice.ensures.value c.in-Err.ensures.stops) told).0

pub returns-in-Err-clause-told_before : goal.returns-in-Err-clause-told_before
returns-in-Err-clause-told_before g c bytes number known told =
    let some : c.in_ok-read_line.field-0 ≡ true = search rules in
    let played = flushes (c.loop-number.invariant bytes known) c.in_ok-write_due.ensures.flushed in
    (stopped played _ _ _ _ _ number (c.in_ok-read_line.ensures.known played.rest played.known) some
    (subst (λ l. IsStopAt l c.loop-number.number (run_of c.loop-number.run) c.write_due.new.report c.play_line.new.run.report c.in-Err.fault) c.as_slice.ensures.value c.in-Err.ensures.stops) told).1

pub loop-number-preserved : goal.loop-number-preserved
loop-number-preserved g c bytes known =
    let some : c.in_ok-read_line.field-0 ≡ true = search rules in
    let played = flushes (c.loop-number.invariant bytes known) c.in_ok-write_due.ensures.flushed in
    goes_on played _ _ _ _ _ (c.in_ok-read_line.ensures.known played.rest played.known) some
    (subst (λ l. IsPlayedLine l c.loop-number.number (run_of c.loop-number.run) c.write_due.new.report (run_of c.play_line.new.run) c.play_line.new.run.report) c.as_slice.ensures.value c.in_default.ensures.goes_on)
