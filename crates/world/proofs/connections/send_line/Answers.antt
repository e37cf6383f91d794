use Rattle.std.proofs.Common.{◌∙◌, ap, sym, subst}
use Rattle.std.proofs.lemmas.Result.{on_ok_weaker, on_err_weaker}
use Rattle.world.specs.Connections.{service_of, client_in, AreFit}
use Rattle.world.specs.Hosts.{network_of}
use Rattle.runs.specs.Interrupted.{IsInterrupted}
use Rattle.world.specs.Served.{IsLine}
use Rattle.runs.specs.declared.event.Event.TheVariants as event
use Rattle.world.specs.Waiting.{KeepsOthers}
use Rattle.world.proofs.Noting.{same_others, set_others}
use Rattle.world.proofs.ServiceSteps.{line_occurs, line_interrupted, line_absent, fit_set}
use Rattle.world.proofs.connections.send_line.Goals as goal

pub hear-requires : goal.hear-requires
hear-requires g c = c.requires.fit c.args.session c.in-Some.connection.now (sym c.in-Some.ensures.value)

pub returns-in-Some-clause-ok : goal.returns-in-Some-clause-ok
returns-in-Some-clause-ok g c cfg same =
    let es = c.args.connections.now.entries in
    let f = (c.get_mut.follows.holds c.hear.new.self).0 in
    on_ok_weaker c.hear.result
    (λ h. ap (service_of c.hear.new.hosts) f ∙ line_occurs c.args.hosts.now c.hear.new.hosts es c.args.session c.in-Some.connection.now c.hear.new.self (sym c.in-Some.ensures.value) cfg c.args.line (subst (λ a. IsLine a c.args.line (network_of c.args.hosts.now) (network_of c.hear.new.hosts) (client_in c.in-Some.connection.now) (client_in c.hear.new.self)) (sym same) h))
    c.hear.ensures.ok

pub returns-in-Some-clause-err : goal.returns-in-Some-clause-err
returns-in-Some-clause-err g c cfg =
    let es = c.args.connections.now.entries in
    let f = (c.get_mut.follows.holds c.hear.new.self).0 in
    on_err_weaker c.hear.result
    (λ h. subst (λ s. IsInterrupted cfg (event.Line c.args.session c.args.line) (service_of c.args.hosts.now es) s) (sym (ap (service_of c.hear.new.hosts) f))
    (line_interrupted c.args.hosts.now c.hear.new.hosts es c.args.session c.in-Some.connection.now c.hear.new.self (sym c.in-Some.ensures.value) cfg c.args.line h))
    c.hear.ensures.err

pub returns-in-Some-clause-fit : goal.returns-in-Some-clause-fit
returns-in-Some-clause-fit g c =
    let f = (c.get_mut.follows.holds c.hear.new.self).0 in
    subst AreFit (sym f) (fit_set c.args.session c.args.connections.now.entries c.hear.new.self c.requires.fit c.hear.ensures.fit)

pub returns-in-None-clause-ok : goal.returns-in-None-clause-ok
returns-in-None-clause-ok g c cfg same =
    ap (λ m. service_of c.args.hosts.now m.entries) c.get_mut.follows.holds-at-none ∙ line_absent c.args.hosts.now c.args.connections.now.entries c.args.session (sym c.in-None.ensures.value) cfg c.args.line

pub returns-in-Some-clause-sessions : goal.returns-in-Some-clause-sessions
returns-in-Some-clause-sessions g c =
    let es = c.args.connections.now.entries in
    subst (λ later. KeepsOthers c.args.session es later) (sym (c.get_mut.follows.holds c.hear.new.self).0) (set_others c.args.session es c.hear.new.self)

pub returns-in-None-clause-sessions : goal.returns-in-None-clause-sessions
returns-in-None-clause-sessions g c = same_others c.args.session c.args.connections.now.entries _ (ap (λ m. m.entries) c.get_mut.follows.holds-at-none)
