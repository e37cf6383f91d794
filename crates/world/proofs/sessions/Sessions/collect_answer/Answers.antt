use Rattle.std.proofs.Common.{◌≡◌, subst, sym}
use Rattle.std.specs.Prelude.{OnErr, OnOk}
use Rattle.world.specs.Connections.{service_of, AreFit, AreUntaken}
use Rattle.runs.specs.Interrupted.{IsInterrupted}
use Rattle.runs.specs.Services.{occurs}
use Rattle.world.specs.Waiting.{Sessions}
use Rattle.runs.specs.declared.event.Event.TheVariants as event
use Rattle.world.proofs.sessions.Sessions.collect_answer.Goals as goal

pub collect_answer-requires-clause-fit : goal.collect_answer-requires-clause-fit
collect_answer-requires-clause-fit g c = subst (λ (s : Sessions g.row.A.Denot). AreFit s.entries) (sym c.self.view_is) c.requires.fit

pub collect_answer-requires-clause-untaken : goal.collect_answer-requires-clause-untaken
collect_answer-requires-clause-untaken g c = subst (λ (s : Sessions g.row.A.Denot). AreUntaken c.args.hosts.now s.entries) (sym c.self.view_is) c.requires.untaken

pub returns-clause-ok : goal.returns-clause-ok
returns-clause-ok g c cfg =
    subst (λ (s : Sessions g.row.A.Denot). OnOk c.collect_answer.result (service_of c.collect_answer.new.hosts c.collect_answer.new.connections.entries ≡ occurs cfg (service_of c.args.hosts.now s.entries) (event.Collect c.args.session))) c.self.view_is
    (c.collect_answer.ensures.ok cfg)

pub returns-clause-err : goal.returns-clause-err
returns-clause-err g c cfg =
    subst (λ (s : Sessions g.row.A.Denot). OnErr c.collect_answer.result (IsInterrupted cfg (event.Collect c.args.session) (service_of c.args.hosts.now s.entries) (service_of c.collect_answer.new.hosts c.collect_answer.new.connections.entries))) c.self.view_is
    (c.collect_answer.ensures.err cfg)
