use Rattle.std.proofs.Common.{◌∙◌, refl, Some, None}
use Rattle.audit.proofs.Entries.{answered_at}
use Rattle.audit.proofs.Finding.{got, got_none}
use Rattle.audit.proofs.sources.is_answered.Goals as goal

pub returns-in-Some : goal.returns-in-Some
returns-in-Some g c =
    let replays = c.args.replays.now in
    let replay = c.in-Some.replay.now in
    let found = got replays replays c.place_of.result replay refl c.in-Some.ensures.lookup.3.0 c.in-Some.ensures.lookup.1 in
    c.has_answer.ensures ∙ answered_at c.args.logs.now replays c.args.id c.place_of.result c.get-node.result.0 c.get-ticket.result.1 (Some replay) c.place_of.ensures c.get-node.ensures.node c.get-ticket.ensures.ticket found

pub returns-in-None : goal.returns-in-None
returns-in-None g c =
    let replays = c.args.replays.now in
    let none = got_none replays replays c.place_of.result refl c.in-None.ensures.lookup.3 in
    answered_at c.args.logs.now replays c.args.id c.place_of.result c.get-node.result.0 c.get-ticket.result.1 None c.place_of.ensures c.get-node.ensures.node c.get-ticket.ensures.ticket none
