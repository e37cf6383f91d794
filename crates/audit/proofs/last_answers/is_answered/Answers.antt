use Rattle.std.proofs.Common.{◌≡◌, ◌∙◌, ap, refl}
use Rattle.maildrop.specs.Ticket.{Ticket}
use Rattle.audit.specs.Records.{place_of}
use Rattle.audit.proofs.Finding.{got}
use Rattle.audit.proofs.LastKeys.{none_awaited, answered_here, answered_nowhere}
use Rattle.audit.proofs.last_answers.is_answered.Goals as goal

pub returns-in_default : goal.returns-in_default
returns-in_default g c = λ transcripts all. none_awaited c.args.logs.now transcripts c.args.transcript.now c.get.result.now c.last_command.result c.get.ensures c.last_command.ensures c.in_default.is

pub returns-in-Some-get : goal.returns-in-Some-get
returns-in-Some-get g c = λ transcripts all.
    let replays = c.args.replays.now in
    let home : c.place_of.result ≡ place_of c.in-Some.id.ticket.node c.args.logs.now = c.place_of.ensures ∙ ap (λ n. place_of n c.args.logs.now) (c.get-node.ensures.node ∙ ap (λ (t : Ticket). t.node) c.get-ticket.ensures.ticket) in
    answered_here c.args.logs.now transcripts c.args.transcript.now c.get.result.now c.last_command.result c.in-Some.id c.place_of.result c.in-Some-get.replay.now replays c.has_answer.result c.get.ensures c.last_command.ensures c.in-Some.is home all
    (got replays replays c.place_of.result c.in-Some-get.replay.now refl c.in-Some-get.ensures.lookup.3.0 c.in-Some-get.ensures.lookup.1) c.has_answer.ensures

pub returns-in-None : goal.returns-in-None
returns-in-None g c = λ transcripts all.
    let home : c.place_of.result ≡ place_of c.in-Some.id.ticket.node c.args.logs.now = c.place_of.ensures ∙ ap (λ n. place_of n c.args.logs.now) (c.get-node.ensures.node ∙ ap (λ (t : Ticket). t.node) c.get-ticket.ensures.ticket) in
    answered_nowhere c.args.logs.now transcripts c.args.transcript.now c.get.result.now c.last_command.result c.in-Some.id c.place_of.result c.args.replays.now c.get.ensures c.last_command.ensures c.in-Some.is home all c.in-None.ensures.lookup.3
