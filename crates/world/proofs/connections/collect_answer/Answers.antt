use Rattle.std.proofs.Common.{◌∙◌, ap, sym, subst}
use Rattle.std.proofs.lemmas.Result.{on_ok_weaker, on_err_weaker}
use Rattle.world.specs.Connections.{service_of, AreFit}
use Rattle.runs.specs.Interrupted.{IsInterrupted}
use Rattle.runs.specs.declared.event.Event.TheVariants as event
use Rattle.world.specs.Waiting.{KeepsOthers}
use Rattle.world.proofs.Noting.{same_others, set_others}
use Rattle.world.proofs.ServiceSteps.{collect_occurs, collect_interrupted, collect_absent, fit_set}
use Rattle.world.proofs.connections.collect_answer.Goals as goal

pub collect-requires-clause-fit : goal.collect-requires-clause-fit
collect-requires-clause-fit g c = c.requires.fit c.args.session c.in-Some.connection.now (sym c.in-Some.ensures.value)

pub collect-requires-clause-untaken : goal.collect-requires-clause-untaken
collect-requires-clause-untaken g c id awaits = c.requires.untaken c.args.session c.in-Some.connection.now id (sym c.in-Some.ensures.value) awaits

pub returns-in-Some-clause-ok : goal.returns-in-Some-clause-ok
returns-in-Some-clause-ok g c cfg =
    let es = c.args.connections.now.entries in
    let f = (c.get_mut.follows.holds c.collect.new.self).0 in
    on_ok_weaker c.collect.result
    (λ h. ap (service_of c.collect.new.hosts) f ∙ collect_occurs c.args.hosts.now c.collect.new.hosts es c.args.session c.in-Some.connection.now c.collect.new.self (sym c.in-Some.ensures.value) cfg c.collect.ensures.network h)
    c.collect.ensures.ok

pub returns-in-Some-clause-err : goal.returns-in-Some-clause-err
returns-in-Some-clause-err g c cfg =
    let es = c.args.connections.now.entries in
    let f = (c.get_mut.follows.holds c.collect.new.self).0 in
    on_err_weaker c.collect.result
    (λ h. subst (λ s. IsInterrupted cfg (event.Collect c.args.session) (service_of c.args.hosts.now es) s) (sym (ap (service_of c.collect.new.hosts) f))
    (collect_interrupted c.args.hosts.now c.collect.new.hosts es c.args.session c.in-Some.connection.now c.collect.new.self (sym c.in-Some.ensures.value) cfg c.collect.ensures.network h))
    c.collect.ensures.err

pub returns-in-Some-clause-fit : goal.returns-in-Some-clause-fit
returns-in-Some-clause-fit g c =
    let f = (c.get_mut.follows.holds c.collect.new.self).0 in
    subst AreFit (sym f) (fit_set c.args.session c.args.connections.now.entries c.collect.new.self c.requires.fit c.collect.ensures.fit)

pub returns-in-None-clause-ok : goal.returns-in-None-clause-ok
returns-in-None-clause-ok g c cfg =
    ap (λ m. service_of c.args.hosts.now m.entries) c.get_mut.follows.holds-at-none ∙ collect_absent c.args.hosts.now c.args.connections.now.entries c.args.session (sym c.in-None.ensures.value) cfg

pub returns-in-Some-clause-sessions : goal.returns-in-Some-clause-sessions
returns-in-Some-clause-sessions g c =
    let es = c.args.connections.now.entries in
    subst (λ later. KeepsOthers c.args.session es later) (sym (c.get_mut.follows.holds c.collect.new.self).0) (set_others c.args.session es c.collect.new.self)

pub returns-in-None-clause-sessions : goal.returns-in-None-clause-sessions
returns-in-None-clause-sessions g c = same_others c.args.session c.args.connections.now.entries _ (ap (λ m. m.entries) c.get_mut.follows.holds-at-none)
