use Rattle.std.proofs.Common.{refl, sym, ap, arith}
use Rattle.audit.specs.Records.{number_in}
use Rattle.audit.proofs.Finding.{got}
use Rattle.audit.proofs.Openings.{blank_connects, begun_connects, begun_seated}
use Rattle.audit.proofs.Writing.{on_ok}
use Rattle.audit.proofs.write.connect.Goals as goal

pub returns-then-is_blank : goal.returns-then-is_blank
returns-then-is_blank g c = λ transcripts seated at. blank_connects c.args.logs.now transcripts c.args.session c.args.transcript.now c.is_blank.result c.args.events.now.items at c.is_blank.ensures c.if-is_blank.true

pub returns-in-Some : goal.returns-in-Some
returns-in-Some g c = on_ok c.push.result c.push.ensures (λ more transcripts seated at.
    begun_connects c.args.logs.now transcripts c.args.session c.args.transcript.now c.is_blank.result c.seat_of.result c.in-Some.log.now.opening.me c.args.events.now.items c.push.new.events.items at c.is_blank.ensures c.if-is_blank.false (c.seat_of.ensures transcripts)
    (sym (ap number_in (got c.args.logs.now c.args.logs.now c.seat_of.result c.in-Some.log.now refl c.in-Some.ensures.lookup.3.0 c.in-Some.ensures.lookup.1))) more)

pub returns-in-None : goal.returns-in-None
returns-in-None g c = λ transcripts seated at.
    let low = begun_seated c.args.logs.now transcripts c.args.session c.args.transcript.now c.is_blank.result c.seat_of.result at c.is_blank.ensures c.if-is_blank.false (c.seat_of.ensures transcripts) seated in
    let high = c.in-None.ensures.lookup.3 in
    absurd (omega (arith, low, high))
