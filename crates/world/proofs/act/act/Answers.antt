use Rattle.std.proofs.Common.{◌≡◌, ◌∙◌, Some, ap, refl, subst, sym}
use Rattle.std.specs.Prelude.{OnOk, OnErr}
use Rattle.std.proofs.lemmas.Result.{on_ok_weaker, on_err_weaker}
use Rattle.maildrop.specs.declared.op.Op.TheVariants as op
use Rattle.node.specs.declared.input.Input.TheVariants as input
use Rattle.world.specs.Connections.{service_of}
use Rattle.runs.specs.Interrupted.{IsInterrupted}
use Rattle.world.specs.Kept.{awaited_in, collected_by}
use Rattle.runs.specs.Services.{occurs}
use Rattle.runs.specs.declared.event.Event.{Event}
use Rattle.world.proofs.ServiceSteps.{nodes_on, nodes_crash, nodes_arrive, arrival_interrupted}
use Rattle.world.proofs.Keeping.{other_id}
use Rattle.world.proofs.act.act.Goals as goal

pub submit-requires : goal.submit-requires
submit-requires g c = record { new = c.requires.new c.in-Mail.node c.in-Mail.user }

pub submit-requires-in-Break : goal.submit-requires-in-Break
submit-requires-in-Break g c = record { new = c.requires.new c.in-Break.node c.in-Break.user }

pub returns-in-Connect-clause-service : goal.returns-in-Connect-clause-service
returns-in-Connect-clause-service g c =
    subst (λ (e : Event g.row.A.Denot). OnOk c.connect.result (service_of c.args.hosts.now c.connect.new.self.entries ≡ occurs c.args.config.now (service_of c.args.hosts.now c.args.connections.now.entries) e)) (sym c.in-Connect.is)
    (c.connect.ensures.ok c.args.config.now)

pub returns-in-Line-clause-service : goal.returns-in-Line-clause-service
returns-in-Line-clause-service g c =
    subst (λ (e : Event g.row.A.Denot). OnOk c.send_line.result (service_of c.send_line.new.hosts c.send_line.new.self.entries ≡ occurs c.args.config.now (service_of c.args.hosts.now c.args.connections.now.entries) e)) (sym c.in-Line.is)
    (c.send_line.ensures.ok c.args.config.now refl)

pub returns-in-Line-clause-err : goal.returns-in-Line-clause-err
returns-in-Line-clause-err g c =
    subst (λ (e : Event g.row.A.Denot). OnErr c.send_line.result (IsInterrupted c.args.config.now e (service_of c.args.hosts.now c.args.connections.now.entries) (service_of c.send_line.new.hosts c.send_line.new.self.entries))) (sym c.in-Line.is)
    (c.send_line.ensures.err c.args.config.now)

pub returns-in-Hangup-clause-service : goal.returns-in-Hangup-clause-service
returns-in-Hangup-clause-service g c =
    subst (λ (e : Event g.row.A.Denot). OnOk c.hang_up.result (service_of c.hang_up.new.hosts c.hang_up.new.self.entries ≡ occurs c.args.config.now (service_of c.args.hosts.now c.args.connections.now.entries) e)) (sym c.in-Hangup.is)
    (c.hang_up.ensures.ok c.args.config.now)

pub returns-in-Hangup-clause-err : goal.returns-in-Hangup-clause-err
returns-in-Hangup-clause-err g c =
    subst (λ (e : Event g.row.A.Denot). OnErr c.hang_up.result (IsInterrupted c.args.config.now e (service_of c.args.hosts.now c.args.connections.now.entries) (service_of c.hang_up.new.hosts c.hang_up.new.self.entries))) (sym c.in-Hangup.is)
    (c.hang_up.ensures.err c.args.config.now)

pub returns-in-Collect-clause-service : goal.returns-in-Collect-clause-service
returns-in-Collect-clause-service g c =
    subst (λ (e : Event g.row.A.Denot). OnOk c.collect_answer.result (service_of c.collect_answer.new.hosts c.collect_answer.new.self.entries ≡ occurs c.args.config.now (service_of c.args.hosts.now c.args.connections.now.entries) e)) (sym c.in-Collect.is)
    (c.collect_answer.ensures.ok c.args.config.now)

pub returns-in-Collect-clause-err : goal.returns-in-Collect-clause-err
returns-in-Collect-clause-err g c =
    subst (λ (e : Event g.row.A.Denot). OnErr c.collect_answer.result (IsInterrupted c.args.config.now e (service_of c.args.hosts.now c.args.connections.now.entries) (service_of c.collect_answer.new.hosts c.collect_answer.new.self.entries))) (sym c.in-Collect.is)
    (c.collect_answer.ensures.err c.args.config.now)

pub returns-in-Mail-clause-service : goal.returns-in-Mail-clause-service
returns-in-Mail-clause-service g c =
    subst (λ (e : Event g.row.A.Denot). OnOk c.submit.result (service_of c.submit.new.hosts c.args.connections.now.entries ≡ occurs c.args.config.now (service_of c.args.hosts.now c.args.connections.now.entries) e)) (sym c.in-Mail.is)
    (on_ok_weaker c.submit.result (λ h. nodes_on c.args.hosts.now c.submit.new.hosts c.args.connections.now.entries c.in-Mail.node (input.Submit c.in-Mail.user (op.Mail c.in-Mail.text c.in-Mail.key)) refl h) c.submit.ensures.ok)

pub returns-in-Mail-clause-err : goal.returns-in-Mail-clause-err
returns-in-Mail-clause-err g c =
    subst (λ (e : Event g.row.A.Denot). OnErr c.submit.result (IsInterrupted c.args.config.now e (service_of c.args.hosts.now c.args.connections.now.entries) (service_of c.submit.new.hosts c.args.connections.now.entries))) (sym c.in-Mail.is)
    (on_err_weaker c.submit.result (λ h. nodes_crash c.args.hosts.now c.submit.new.hosts c.args.connections.now.entries c.args.config.now c.in-Mail.node h) c.submit.ensures.err)

pub returns-in-Break-clause-service : goal.returns-in-Break-clause-service
returns-in-Break-clause-service g c =
    subst (λ (e : Event g.row.A.Denot). OnOk c.submit-in-Break.result (service_of c.submit-in-Break.new.hosts c.args.connections.now.entries ≡ occurs c.args.config.now (service_of c.args.hosts.now c.args.connections.now.entries) e)) (sym c.in-Break.is)
    (on_ok_weaker c.submit-in-Break.result (λ h. nodes_on c.args.hosts.now c.submit-in-Break.new.hosts c.args.connections.now.entries c.in-Break.node (input.Submit c.in-Break.user op.Break) refl h) c.submit-in-Break.ensures.ok)

pub returns-in-Break-clause-err : goal.returns-in-Break-clause-err
returns-in-Break-clause-err g c =
    subst (λ (e : Event g.row.A.Denot). OnErr c.submit-in-Break.result (IsInterrupted c.args.config.now e (service_of c.args.hosts.now c.args.connections.now.entries) (service_of c.submit-in-Break.new.hosts c.args.connections.now.entries))) (sym c.in-Break.is)
    (on_err_weaker c.submit-in-Break.result (λ h. nodes_crash c.args.hosts.now c.submit-in-Break.new.hosts c.args.connections.now.entries c.args.config.now c.in-Break.node h) c.submit-in-Break.ensures.err)

pub returns-in-Tick-clause-service : goal.returns-in-Tick-clause-service
returns-in-Tick-clause-service g c =
    subst (λ (e : Event g.row.A.Denot). OnOk c.give.result (service_of c.give.new.hosts c.args.connections.now.entries ≡ occurs c.args.config.now (service_of c.args.hosts.now c.args.connections.now.entries) e)) (sym c.in-Tick.is)
    (on_ok_weaker c.give.result (λ h. nodes_on c.args.hosts.now c.give.new.hosts c.args.connections.now.entries c.in-Tick.node input.Tick refl h) c.give.ensures.ok)

pub returns-in-Tick-clause-err : goal.returns-in-Tick-clause-err
returns-in-Tick-clause-err g c =
    subst (λ (e : Event g.row.A.Denot). OnErr c.give.result (IsInterrupted c.args.config.now e (service_of c.args.hosts.now c.args.connections.now.entries) (service_of c.give.new.hosts c.args.connections.now.entries))) (sym c.in-Tick.is)
    (on_err_weaker c.give.result (λ h. nodes_crash c.args.hosts.now c.give.new.hosts c.args.connections.now.entries c.args.config.now c.in-Tick.node h) c.give.ensures.err)

pub returns-in-Campaign-clause-service : goal.returns-in-Campaign-clause-service
returns-in-Campaign-clause-service g c =
    subst (λ (e : Event g.row.A.Denot). OnOk c.give-in-Campaign.result (service_of c.give-in-Campaign.new.hosts c.args.connections.now.entries ≡ occurs c.args.config.now (service_of c.args.hosts.now c.args.connections.now.entries) e)) (sym c.in-Campaign.is)
    (on_ok_weaker c.give-in-Campaign.result (λ h. nodes_on c.args.hosts.now c.give-in-Campaign.new.hosts c.args.connections.now.entries c.in-Campaign.node input.Campaign refl h) c.give-in-Campaign.ensures.ok)

pub returns-in-Campaign-clause-err : goal.returns-in-Campaign-clause-err
returns-in-Campaign-clause-err g c =
    subst (λ (e : Event g.row.A.Denot). OnErr c.give-in-Campaign.result (IsInterrupted c.args.config.now e (service_of c.args.hosts.now c.args.connections.now.entries) (service_of c.give-in-Campaign.new.hosts c.args.connections.now.entries))) (sym c.in-Campaign.is)
    (on_err_weaker c.give-in-Campaign.result (λ h. nodes_crash c.args.hosts.now c.give-in-Campaign.new.hosts c.args.connections.now.entries c.args.config.now c.in-Campaign.node h) c.give-in-Campaign.ensures.err)

pub returns-in-Arrive-clause-service : goal.returns-in-Arrive-clause-service
returns-in-Arrive-clause-service g c =
    subst (λ (e : Event g.row.A.Denot). OnOk c.arrive.result (service_of c.arrive.new.self c.args.connections.now.entries ≡ occurs c.args.config.now (service_of c.args.hosts.now c.args.connections.now.entries) e)) (sym c.in-Arrive.is)
    (on_ok_weaker c.arrive.result (λ h. nodes_arrive c.args.hosts.now c.arrive.new.self c.args.connections.now.entries c.args.config.now c.in-Arrive.which h) c.arrive.ensures.ok)

pub returns-in-Arrive-clause-err : goal.returns-in-Arrive-clause-err
returns-in-Arrive-clause-err g c =
    subst (λ (e : Event g.row.A.Denot). OnErr c.arrive.result (IsInterrupted c.args.config.now e (service_of c.args.hosts.now c.args.connections.now.entries) (service_of c.arrive.new.self c.args.connections.now.entries))) (sym c.in-Arrive.is)
    (on_err_weaker c.arrive.result (λ h. arrival_interrupted c.args.hosts.now c.arrive.new.self c.args.connections.now.entries c.args.config.now c.in-Arrive.which h) c.arrive.ensures.err)

pub returns-in-Crash-clause-service : goal.returns-in-Crash-clause-service
returns-in-Crash-clause-service g c =
    subst (λ (e : Event g.row.A.Denot). OnOk c.give-in-Crash.result (service_of c.give-in-Crash.new.hosts c.args.connections.now.entries ≡ occurs c.args.config.now (service_of c.args.hosts.now c.args.connections.now.entries) e)) (sym c.in-Crash.is)
    (on_ok_weaker c.give-in-Crash.result (λ h. nodes_crash c.args.hosts.now c.give-in-Crash.new.hosts c.args.connections.now.entries c.args.config.now c.in-Crash.node h) c.give-in-Crash.ensures.ok)

pub returns-in-Crash-clause-err : goal.returns-in-Crash-clause-err
returns-in-Crash-clause-err g c =
    subst (λ (e : Event g.row.A.Denot). OnErr c.give-in-Crash.result (IsInterrupted c.args.config.now e (service_of c.args.hosts.now c.args.connections.now.entries) (service_of c.give-in-Crash.new.hosts c.args.connections.now.entries))) (sym c.in-Crash.is)
    (on_err_weaker c.give-in-Crash.result (λ h. nodes_crash c.args.hosts.now c.give-in-Crash.new.hosts c.args.connections.now.entries c.args.config.now c.in-Crash.node h) c.give-in-Crash.ensures.err)

pub returns-in-Collect-clause-answers : goal.returns-in-Collect-clause-answers
returns-in-Collect-clause-answers g c n id apart has =
    let es = c.args.connections.now.entries in
    c.collect_answer.ensures.others n id
    (λ it other found awaits. other_id other id (λ e. apart (ap (collected_by es) c.in-Collect.is ∙ ap awaited_in found ∙ awaits ∙ ap Some e)))
    has
