use Rattle.std.proofs.Common.{length, get_or, sym, ap, subst}
use Rattle.std.specs.Prelude.{slice_get}
use Rattle.std.proofs.lemmas.Option.{slice_get-get_or}
use Rattle.audit.specs.Records.{number_in}
use Rattle.audit.specs.Speakers.{IsKnownSource}
use Rattle.audit.proofs.Writing.{on_ok, both_ok, asked_one, from_session, last_one, own_one, message_one}
use Rattle.audit.proofs.write.write_one.Goals as goal

pub returns-in-Own : goal.returns-in-Own
returns-in-Own g c =
    let logs = c.args.logs.now in
    let n = c.args.placement.node in
    let log = get_or logs n c.index-logs-placement.result in
    let at_home = slice_get-get_or logs n c.index-logs-placement.result c.requires.node in
    on_ok c.push.result c.push.ensures (λ e at answered talks h.
    own_one (λ n. number_in (slice_get logs n)) at answered (length c.args.speakers.now) talks n log.opening.me c.args.placement.source c.args.events.now.items c.push.new.events.items c.args.speakers.now c.in-Own.is (sym (ap number_in at_home)) h e)

pub returns-in-Message : goal.returns-in-Message
returns-in-Message g c =
    let logs = c.args.logs.now in
    let n = c.args.placement.node in
    on_ok c.push-in-Message.result c.push-in-Message.ensures (λ e at answered talks h.
    message_one (λ n. number_in (slice_get logs n)) at answered (length c.args.speakers.now) talks n c.in-Message.which c.args.placement.source c.args.events.now.items c.push-in-Message.new.events.items c.args.speakers.now c.in-Message.is h e)

pub returns-in-Last : goal.returns-in-Last
returns-in-Last g c =
    let logs = c.args.logs.now in
    let n = c.args.placement.node in
    let log = get_or logs n c.index-logs-placement.result in
    let at_home = slice_get-get_or logs n c.index-logs-placement.result c.requires.node in
    on_ok c.write_last.result c.write_last.ensures (λ f at answered talks h.
    last_one (λ n. number_in (slice_get logs n)) at answered (length c.args.speakers.now) talks n log.opening.me c.args.placement.source c.args.events.now.items c.write_last.new.events.items c.write_last.new.speakers c.in-Last.is (sym (ap number_in at_home)) (f at answered talks h))

pub returns-in-FromSession : goal.returns-in-FromSession
returns-in-FromSession g c =
    let logs = c.args.logs.now in
    let n = c.args.placement.node in
    let i = c.in-FromSession.session in
    let speakers = c.args.speakers.now in
    let s = get_or speakers i c.index-speakers-session.result in
    both_ok c.ask.result c.ask.ensures.events c.ask.ensures.speaker (λ events speaker at answered talks h.
    from_session (λ n. number_in (slice_get logs n)) at answered (length speakers) talks n i c.args.placement.source c.args.events.now.items c.ask.new.events.items _ c.in-FromSession.is
    (asked_one (λ n. number_in (slice_get logs n)) at answered (length speakers) talks i speakers s c.ask.new.self c.args.events.now.items c.ask.new.events.items h (slice_get-get_or speakers i c.index-speakers-session.result (subst (IsKnownSource (length speakers)) c.in-FromSession.is c.requires.source)) events speaker))
