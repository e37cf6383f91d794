use Rattle.std.proofs.Common.{◌∙◌, sym, arith, length}
use Rattle.world.proofs.Nexts.{next_none, next_found, collect_possible}
use Rattle.world.proofs.Noting.{unanswered_on, unanswered_past}
use Rattle.world.proofs.next.next_answer.Goals as goal

pub returns-in-Some-clause-value : goal.returns-in-Some-clause-value
returns-in-Some-clause-value g c =
    let found = c.in-Some.ensures.some in
    let some = c.in_ok-next.ensures.some in
    let hosts = c.args.hosts.now in
    let es = c.args.connections.now.entries in
    sym (next_found hosts es c.in_ok-next.next c.in-Some.session found.0 (unanswered_on hosts es c.args.connections.now.waiting c.loop-place.place c.in_ok-next.next c.requires.current c.loop-place.invariant some.2) found.1 found.3)

pub returns-in-Some-clause-possible : goal.returns-in-Some-clause-possible
returns-in-Some-clause-possible g c cfg =
    let found = c.in-Some.ensures.some in
    collect_possible c.args.hosts.now c.args.connections.now.entries cfg c.in-Some.session found.0 found.2 found.3

pub returns-in_err-next-clause-value : goal.returns-in_err-next-clause-value
returns-in_err-next-clause-value g c =
    let hosts = c.args.hosts.now in
    let es = c.args.connections.now.entries in
    c.from_residual.ensures ∙ sym (next_none hosts es (unanswered_on hosts es c.args.connections.now.waiting c.loop-place.place (length es) c.requires.current c.loop-place.invariant c.in_err-next.ensures.none))

pub loop-place-preserved : goal.loop-place-preserved
loop-place-preserved g c =
    let some = c.in_ok-next.ensures.some in
    let hosts = c.args.hosts.now in
    let es = c.args.connections.now.entries in
    unanswered_past hosts es c.in_ok-next.next (unanswered_on hosts es c.args.connections.now.waiting c.loop-place.place c.in_ok-next.next c.requires.current c.loop-place.invariant some.2) c.in_default.ensures.none

pub returns-clause-value : goal.returns-clause-value
returns-clause-value g c =
    sym (next_none c.args.hosts.now c.args.connections.now.entries (record { each = λ k e lt at. c.loop-place.invariant.each k e (omega (arith, lt, c.loop-place-test.false, c.len.ensures.len)) at }))
