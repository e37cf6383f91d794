use Rattle.std.proofs.Common.{◌≡◌, subst, sym}
use Rattle.std.specs.Prelude.{OnErr, OnOk}
use Rattle.world.specs.Connections.{service_of, AreFit}
use Rattle.runs.specs.Interrupted.{IsInterrupted}
use Rattle.runs.specs.Services.{occurs}
use Rattle.world.specs.Waiting.{Sessions}
use Rattle.runs.specs.declared.event.Event.TheVariants as event
use Rattle.world.proofs.sessions.Sessions.hang_up.Goals as goal

pub hang_up-requires : goal.hang_up-requires
hang_up-requires g c = record { fit = subst (λ (s : Sessions g.row.A.Denot). AreFit s.entries) (sym c.self.view_is) c.requires.fit }

pub returns-clause-ok : goal.returns-clause-ok
returns-clause-ok g c cfg =
    subst (λ (s : Sessions g.row.A.Denot). OnOk c.hang_up.result (service_of c.hang_up.new.hosts c.hang_up.new.connections.entries ≡ occurs cfg (service_of c.args.hosts.now s.entries) (event.Hangup c.args.session))) c.self.view_is
    (c.hang_up.ensures.ok cfg)

pub returns-clause-err : goal.returns-clause-err
returns-clause-err g c cfg =
    subst (λ (s : Sessions g.row.A.Denot). OnErr c.hang_up.result (IsInterrupted cfg (event.Hangup c.args.session) (service_of c.args.hosts.now s.entries) (service_of c.hang_up.new.hosts c.hang_up.new.connections.entries))) c.self.view_is
    (c.hang_up.ensures.err cfg)
