use Rattle.std.proofs.Common.{◌≡◌, subst, sym}
use Rattle.std.specs.Prelude.{OnOk}
use Rattle.world.specs.Connections.{service_of, AreFit}
use Rattle.runs.specs.Services.{occurs}
use Rattle.world.specs.Waiting.{Sessions}
use Rattle.runs.specs.declared.event.Event.TheVariants as event
use Rattle.world.proofs.sessions.Sessions.connect.Goals as goal

pub connect-requires : goal.connect-requires
connect-requires g c = record { fit = subst (λ (s : Sessions g.row.A.Denot). AreFit s.entries) (sym c.self.view_is) c.requires.fit }

pub returns-clause-ok : goal.returns-clause-ok
returns-clause-ok g c cfg =
    subst (λ (s : Sessions g.row.A.Denot). OnOk c.connect.result (service_of c.args.hosts.now c.connect.new.connections.entries ≡ occurs cfg (service_of c.args.hosts.now s.entries) (event.Connect c.args.session c.args.node c.args.stamp))) c.self.view_is
    (c.connect.ensures.ok cfg)
