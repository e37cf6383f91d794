use Rattle.std.proofs.Common.{rules, ◌≡◌, ◌∙◌, ◌++◌, Some, None, ap, refl, subst, sym}
use Rattle.std.specs.Io.Buffered.{reader_remaining}
use Rattle.std.specs.Io.KnownBytes.{Appends}
use Rattle.std.specs.Str.Lines.{lines}
use Rattle.std.specs.declared.alloc.Global.{Global}
use Rattle.simulator.specs.Reading.{left_of}
use Rattle.simulator.specs.Runs.{output, run_of}
use Rattle.simulator.specs.Statuses.{fault_from, first_fault}
use Rattle.simulator.proofs.Ending.{as_within, at_end, at_line, begun_output}
use Rattle.simulator.proofs.sim.run.Goals as goal

pub returns-clause-line : goal.returns-clause-line
returns-clause-line g c =
    let same : reader_remaining (λ r. g.R.Read.remaining r.now) c.in-Ok.lines ≡ g.R.Read.remaining c.args.reader.now =
    as_within (λ r. g.R.Read.remaining r.now) _ c.new.result c.in-Ok.lines _ (search rules) c.new.ensures.inner c.new.ensures.empty c.new.ensures.capacity refl in
    at_line c.play_and_write.result (g.R.Read.remaining c.args.reader.now) _ (λ bytes number. fault_from (lines bytes) 1 c.new-run.result.script ≡ Some number) (λ input number. first_fault input ≡ Some number) same
    (λ bytes number told. ap (fault_from (lines bytes) 1) (sym c.new-run.ensures.script) ∙ told) c.play_and_write.ensures.line

pub returns-clause-sound : goal.returns-clause-sound
returns-clause-sound g c =
    let same : reader_remaining (λ r. g.R.Read.remaining r.now) c.in-Ok.lines ≡ g.R.Read.remaining c.args.reader.now =
    as_within (λ r. g.R.Read.remaining r.now) _ c.new.result c.in-Ok.lines _ (search rules) c.new.ensures.inner c.new.ensures.empty c.new.ensures.capacity refl in
    at_end c.play_and_write.result (g.R.Read.remaining c.args.reader.now) _ (λ bytes. fault_from (lines bytes) 1 c.new-run.result.script ≡ None) (λ input. first_fault input ≡ None) same
    (λ bytes told. ap (fault_from (lines bytes) 1) (sym c.new-run.ensures.script) ∙ told) c.play_and_write.ensures.sound

pub returns-clause-written : goal.returns-clause-written
returns-clause-written g c =
    let same : reader_remaining (λ r. g.R.Read.remaining r.now) c.in-Ok.lines ≡ g.R.Read.remaining c.args.reader.now =
    as_within (λ r. g.R.Read.remaining r.now) _ c.new.result c.in-Ok.lines _ (search rules) c.new.ensures.inner c.new.ensures.empty c.new.ensures.capacity refl in
    let run = c.new-run.result in
    let e = c.new-run.ensures in
    at_end c.play_and_write.result (g.R.Read.remaining c.args.reader.now) _ (λ bytes. Appends (g.W.Write.contents c.args.writer.now) (g.W.Write.contents c.play_and_write.new.writer) (run.report ++ left_of bytes (run_of run)))
    (λ input. Appends (g.W.Write.contents c.args.writer.now) (g.W.Write.contents c.play_and_write.new.writer) (output Global input)) same
    (λ bytes told. subst (Appends (g.W.Write.contents c.args.writer.now) (g.W.Write.contents c.play_and_write.new.writer)) (begun_output run bytes e.script e.play e.report) told) c.play_and_write.ensures.written

pub returns-clause-written_before : goal.returns-clause-written_before
returns-clause-written_before g c =
    let same : reader_remaining (λ r. g.R.Read.remaining r.now) c.in-Ok.lines ≡ g.R.Read.remaining c.args.reader.now =
    as_within (λ r. g.R.Read.remaining r.now) _ c.new.result c.in-Ok.lines _ (search rules) c.new.ensures.inner c.new.ensures.empty c.new.ensures.capacity refl in
    let run = c.new-run.result in
    let e = c.new-run.ensures in
    at_line c.play_and_write.result (g.R.Read.remaining c.args.reader.now) _ (λ bytes number. Appends (g.W.Write.contents c.args.writer.now) (g.W.Write.contents c.play_and_write.new.writer) (run.report ++ left_of bytes (run_of run)))
    (λ input number. Appends (g.W.Write.contents c.args.writer.now) (g.W.Write.contents c.play_and_write.new.writer) (output Global input)) same
    (λ bytes number told. subst (Appends (g.W.Write.contents c.args.writer.now) (g.W.Write.contents c.play_and_write.new.writer)) (begun_output run bytes e.script e.play e.report) told) c.play_and_write.ensures.written_before
