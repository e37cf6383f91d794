use Rattle.std.proofs.Common.{◌+◌, ◌<◌, length, get_or, refl, arith, false}
use Rattle.std.proofs.lemmas.Option.{slice_get_read, slice_get-get_or}
use Rattle.audit.proofs.Openings.{one_made, all_made}
use Rattle.audit.proofs.write.speakers_of.Goals as goal

pub loop-session-preserved : goal.loop-session-preserved
loop-session-preserved g c =
    let transcripts = c.args.transcripts.now in
    let m = c.loop-session.session in
    let t = c.index-transcripts-session.result in
    let test = c.loop-session-test.true in
    let count = c.requires.count in
    let within : m < length c.args.answered.now = omega (arith, test, count) in
    one_made c.args.logs.now transcripts m (m + 1) c.loop-session.speakers.items c.push.new.self.items t _ c.args.answered.now (get_or c.args.answered.now m false) c.loop-session.invariant (omega arith)
    (slice_get_read transcripts (length transcripts) m t refl test c.index-transcripts-session.is)
    c.in_ok-push.ensures.items c.requires
    (slice_get-get_or c.args.answered.now m false within)
    (c.in_ok-speaker_of.ensures transcripts)

pub returns-clause-speakers : goal.returns-clause-speakers
returns-clause-speakers g c = all_made c.args.logs.now c.args.transcripts.now c.loop-session.session c.loop-session.speakers.items c.loop-session.invariant
