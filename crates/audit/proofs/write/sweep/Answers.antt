use Rattle.std.proofs.Common.{◌+◌, ◌<◌, get_or, length, arith}
use Rattle.std.proofs.lemmas.Option.{slice_get-get_or}
use Rattle.audit.specs.Speakers.{goes}
use Rattle.audit.proofs.Sweeping.{none_swept, one_swept, all_swept}
use Rattle.audit.proofs.write.sweep.Goals as goal

pub loop-session-init : goal.loop-session-init
loop-session-init g c = λ at answered talks h. none_swept at answered (goes c.args.node) talks c.args.events.now.items c.args.speakers.now h

pub loop-session-preserved : goal.loop-session-preserved
loop-session-preserved g c = λ at answered talks h.
    let m = c.loop-session.session in
    let speakers = c.loop-session.speakers in
    let test = c.loop-session-test.true in
    let count = c.loop-session.auto.speakers in
    let within : m < length speakers = omega (arith, test, count) in
    let s = get_or speakers m c.index-speakers-session.result in
    one_swept at answered (goes c.args.node) talks c.args.events.now.items m (m + 1) c.loop-session.events.items c.go_on_at.new.events.items speakers s c.go_on_at.new.self (c.loop-session.invariant at answered talks h) (omega arith)
    (slice_get-get_or speakers m c.index-speakers-session.result within)
    c.in_ok-go_on_at.ensures.events c.in_ok-go_on_at.ensures.speaker

pub returns : goal.returns
returns g c = λ at answered talks h.
    let low = c.loop-session-test.false in
    let high = c.loop-session.auto.session-end in
    let count = c.loop-session.auto.speakers in
    all_swept at answered (goes c.args.node) talks c.args.events.now.items c.loop-session.session (length c.args.speakers.now) c.loop-session.events.items c.loop-session.speakers (c.loop-session.invariant at answered talks h) (omega (arith, low, high)) (omega (arith, count))
