use Rattle.std.proofs.Common.{◌∙◌, ap, refl, sym, Some}
use Rattle.runs.specs.Clients.{with_line}
use Rattle.world.specs.Connections.{client_in, lines_in, tickets_in}
use Rattle.world.proofs.HeardLines.{lines_push, ticket_push}
use Rattle.world.proofs.Replying.{pushed_asking, asked}
use Rattle.world.proofs.connection.Connection.ask.Goals as goal

pub returns-in-Ok-Some-clause-ok : goal.returns-in-Ok-Some-clause-ok
returns-in-Ok-Some-clause-ok g c =
    let hs = c.args.self.now.heard.items in
    let ticket = c.in-Ok-Some.ticket in (
      c.in-Ok-Some.ensures.ok,
      asked _ (with_line (client_in c.args.self.now) c.args.line) _ c.args.self.now.session.state c.args.user c.args.op ticket c.requires.up (sym c.in-Ok-Some.field-0-is ∙ c.in-Ok-Some.ensures.ticket)
          (pushed_asking (client_in c.args.self.now) c.args.line (lines_in c.push_reserved.new.self.items) (tickets_in c.push_reserved.new.self.items) c.args.self.now.session.state c.new.result (record { user = c.args.user; ticket = ticket }) ticket
          (ap lines_in c.push_reserved.ensures.items ∙ lines_push hs (record { line = c.args.line; ticket = Some ticket }))
          (ap tickets_in c.push_reserved.ensures.items ∙ ticket_push hs (record { line = c.args.line; ticket = Some ticket }) ticket refl)
          c.new.ensures),
    )
