use Rattle.std.proofs.Common.{◌≡◌, ◌∙◌, ◌+◌, ◌++◌, length, refl, ap, arith}
use Rattle.std.proofs.lemmas.Option.{slice_get_read}
use Rattle.audit.specs.Records.{case_of}
use Rattle.audit.specs.Written.{connects}
use Rattle.audit.specs.Wrong.{seat}
use Rattle.audit.proofs.Openings.{connects_next}
use Rattle.audit.proofs.write.connect_all.Goals as goal

pub loop-session-preserved : goal.loop-session-preserved
loop-session-preserved g c = λ seated.
    let transcripts = c.args.transcripts.now in
    let m = c.loop-session.session in
    connects_next c.args.logs.now transcripts m (m + 1) c.args.events.now.items c.loop-session.events.items c.connect.new.events.items (omega arith) (c.loop-session.invariant seated)
    (c.in_ok-connect.ensures transcripts seated (slice_get_read transcripts (length transcripts) m c.index-transcripts-session.result refl c.loop-session-test.true c.index-transcripts-session.is))

pub returns : goal.returns
returns g c = λ seated.
    let low = c.loop-session-test.false in
    let high = c.loop-session.auto.session-end in
    let same : c.loop-session.session ≡ length c.args.transcripts.now = omega (arith, low, high) in
    c.loop-session.invariant seated ∙ ap (λ n. c.args.events.now.items ++ connects (case_of c.args.logs.now c.args.transcripts.now) (seat (case_of c.args.logs.now c.args.transcripts.now)) n) same
