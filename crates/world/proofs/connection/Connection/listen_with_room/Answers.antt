use Rattle.std.proofs.Common.{ap, refl, sym, subst}
use Rattle.std.proofs.lemmas.Result.{on_err_weaker}
use Rattle.session.proofs.Settled.{line_settles}
use Rattle.session.specs.Dialogue.{IsSettled}
use Rattle.session.specs.Open.{Open}
use Rattle.session.specs.Session.{by_line, lock_due}
use Rattle.session.specs.declared.state.State.{State}
use Rattle.session.specs.declared.state.Step.{Step}
use Rattle.runs.specs.Clients.{Standing, standing_as, disconnected}
use Rattle.world.specs.Connections.{client_in, standing_in}
use Rattle.world.proofs.Locks.{KeepsLock, line_keeps}
use Rattle.world.proofs.Replying.{cut}
use Rattle.world.proofs.connection.Connection.listen_with_room.Goals as goal

pub follow-requires-clause-settled : goal.follow-requires-clause-settled
follow-requires-clause-settled g c =
    let old = c.args.self.now.session in
    let turn = by_line c.args.accounts.now old.stamp old.state c.args.line in
    subst (λ (s : Step g.row.A.Denot). IsSettled s c.line.new.self.state) (sym c.in-Ok.ensures.step)
    (subst (λ (st : State g.row.A.Denot). IsSettled turn.step st) (sym (ap (λ (o : Open g.row.A.Denot). o.state) c.in-Ok.ensures.state)) (line_settles c.args.accounts.now old.stamp old.state c.args.line c.requires.hearing))

pub returns-in-Ok-clause-err : goal.returns-in-Ok-clause-err
returns-in-Ok-clause-err g c =
    let it = c.args.self.now in
    let old = it.session in
    let turn = by_line c.args.accounts.now old.stamp old.state c.args.line in
    let keeps = subst (λ (s : Step g.row.A.Denot). KeepsLock (lock_due old.state) s c.line.new.self.state) (sym c.in-Ok.ensures.step)
    (subst (λ (st : State g.row.A.Denot). KeepsLock (lock_due old.state) turn.step st) (sym (ap (λ (o : Open g.row.A.Denot). o.state) c.in-Ok.ensures.state)) (line_keeps c.args.accounts.now old.stamp old.state c.args.line c.requires.hearing)) in
    on_err_weaker c.follow.result
    (λ h. cut old.state c.line.new.self.state c.in-Ok.step _ _ (client_in it) _ (client_in c.follow.new.self) keeps h
    (λ (s : Standing g.row.A.Denot). ap (λ (o : Open g.row.A.Denot). standing_as (client_in (record it { session = o })) s) c.in-Ok.ensures.state)
    refl (ap (λ st. disconnected (standing_in st old.state)) c.requires.stands))
    c.follow.ensures.err
