use Rattle.std.proofs.Common.{◌∙◌, ap, refl, None}
use Rattle.runs.specs.Clients.{Client, with_line}
use Rattle.world.specs.Connections.{client_in, lines_in, tickets_in}
use Rattle.world.proofs.HeardLines.{lines_push, no_ticket_push}
use Rattle.world.proofs.Replying.{pushed}
use Rattle.world.proofs.connection.Connection.reply.Goals as goal

pub returns-in-Ok-clause-told : goal.returns-in-Ok-clause-told
returns-in-Ok-clause-told g c =
    let hs = c.tell.new.self.heard.items in
    pushed (client_in c.tell.new.self) c.args.line (lines_in c.push_reserved.new.self.items) (tickets_in c.push_reserved.new.self.items)
    (ap lines_in c.push_reserved.ensures.items ∙ lines_push hs (record { line = c.args.line; ticket = None }))
    (ap tickets_in c.push_reserved.ensures.items ∙ no_ticket_push hs (record { line = c.args.line; ticket = None }) refl)
    ∙ ap (λ (x : Client g.row.A.Denot). with_line x c.args.line) c.in-Ok.ensures.told
