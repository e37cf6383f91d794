use Rattle.std.proofs.Common.{◌∙◌, ap, refl, sym}
use Rattle.std.proofs.lemmas.Result.{on_ok_weaker}
use Rattle.world.specs.Connections.{service_of}
use Rattle.world.proofs.Noting.{greeted_others, same_others}
use Rattle.world.proofs.ServiceSteps.{connect_occurs, connect_known, fit_greeted}
use Rattle.world.proofs.connections.connect.Goals as goal

pub returns-in-Some-clause-ok : goal.returns-in-Some-clause-ok
returns-in-Some-clause-ok g c cfg = connect_known c.args.hosts.now c.args.connections.now.entries c.args.session c.args.node c.args.stamp cfg c.in-Some.field-0.now (sym c.in-Some.ensures.value)

pub returns-in-None-clause-ok : goal.returns-in-None-clause-ok
returns-in-None-clause-ok g c cfg =
    let es = c.args.connections.now.entries in
    on_ok_weaker c.greet.result
    (λ h. ap (service_of c.args.hosts.now) h.3 ∙ connect_occurs c.args.hosts.now es c.args.session (sym c.in-None.ensures.value) cfg c.args.node c.args.stamp h.0 (sym c.is_up.ensures ∙ c.if-not-is_up.false) h.1)
    c.greet.ensures.ok

pub returns-in-None-clause-fit : goal.returns-in-None-clause-fit
returns-in-None-clause-fit g c =
    fit_greeted c.greet.result c.args.connections.now.entries c.greet.new.connections.entries c.args.session _ (sym c.in-None.ensures.value) c.requires.fit c.greet.ensures.ok c.greet.ensures.err

pub returns-in-Some-clause-sessions : goal.returns-in-Some-clause-sessions
returns-in-Some-clause-sessions g c = same_others c.args.session c.args.connections.now.entries c.args.connections.now.entries refl

pub returns-in-None-clause-sessions : goal.returns-in-None-clause-sessions
returns-in-None-clause-sessions g c = greeted_others _ _ c.greet.result c.args.session c.args.connections.now.entries c.greet.new.connections.entries c.greet.ensures.ok c.greet.ensures.err
