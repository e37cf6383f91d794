use Rattle.std.proofs.Common.{◌+◌, length, refl, arith}
use Rattle.std.proofs.lemmas.Option.{slice_get_read}
use Rattle.audit.proofs.LastKeys.{none_answered, one_answered, all_answered}
use Rattle.audit.proofs.last_answers.answered_of.Goals as goal

pub loop-transcript-init : goal.loop-transcript-init
loop-transcript-init g c = none_answered c.args.logs.now c.args.transcripts.now c.in_ok-answered.answered.items c.in_ok-answered.ensures.items

pub loop-transcript-preserved : goal.loop-transcript-preserved
loop-transcript-preserved g c =
    let transcripts = c.args.transcripts.now in
    let m = c.loop-transcript.transcript-index in
    one_answered c.args.logs.now transcripts m (m + 1) c.loop-transcript.answered.items c.push.new.self.items c.transcript-item.result c.is_answered.result c.loop-transcript.invariant (omega arith)
    (slice_get_read transcripts (length transcripts) m c.transcript-item.result refl c.loop-transcript-test.true c.transcript-item.is) c.in_ok-push.ensures.items (c.is_answered.ensures transcripts c.requires)

pub returns : goal.returns
returns g c =
    let low = c.loop-transcript-test.false in
    let high = c.loop-transcript.auto.transcript-index-end in
    all_answered c.args.logs.now c.args.transcripts.now c.loop-transcript.transcript-index c.loop-transcript.answered.items c.loop-transcript.invariant (omega (arith, low, high))
