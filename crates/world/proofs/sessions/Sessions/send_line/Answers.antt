use Rattle.std.proofs.Common.{◌≡◌, subst, sym}
use Rattle.std.specs.Prelude.{OnErr, OnOk}
use Rattle.world.specs.Connections.{service_of, AreFit}
use Rattle.runs.specs.Interrupted.{IsInterrupted}
use Rattle.runs.specs.Services.{occurs}
use Rattle.world.specs.Waiting.{Sessions}
use Rattle.runs.specs.declared.event.Event.TheVariants as event
use Rattle.world.proofs.sessions.Sessions.send_line.Goals as goal

pub send_line-requires : goal.send_line-requires
send_line-requires g c = record { fit = subst (λ (s : Sessions g.row.A.Denot). AreFit s.entries) (sym c.self.view_is) c.requires.fit }

pub returns-clause-ok : goal.returns-clause-ok
returns-clause-ok g c cfg same =
    subst (λ (s : Sessions g.row.A.Denot). OnOk c.send_line.result (service_of c.send_line.new.hosts c.send_line.new.connections.entries ≡ occurs cfg (service_of c.args.hosts.now s.entries) (event.Line c.args.session c.args.line))) c.self.view_is
    (c.send_line.ensures.ok cfg same)

pub returns-clause-err : goal.returns-clause-err
returns-clause-err g c cfg =
    subst (λ (s : Sessions g.row.A.Denot). OnErr c.send_line.result (IsInterrupted cfg (event.Line c.args.session c.args.line) (service_of c.args.hosts.now s.entries) (service_of c.send_line.new.hosts c.send_line.new.connections.entries))) c.self.view_is
    (c.send_line.ensures.err cfg)
