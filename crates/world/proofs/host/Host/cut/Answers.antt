use Rattle.std.proofs.Common.{◌∙◌, ap, sym}
use Rattle.node.specs.Nodes.{no_ticket_for}
use Rattle.node.specs.declared.input.Input.TheVariants.{Crash}
use Rattle.world.specs.Hosts.{Host, host_of}
use Rattle.world.proofs.Hosting.{running, cut_log, stopped_log, goes_on, crashed_has}
use Rattle.world.proofs.Crashes.{stopped_crash}
use Rattle.world.proofs.host.Host.cut.Goals as goal
use Rattle.world.proofs.host.Host.cut.Goals.{in-Ok, in-Err}

pub returns-after-step-clause-log : goal.returns-after-step-clause-log
returns-after-step-clause-log g c =
    let up = sym c.is_up.ensures ∙ c.if-is_up.true in
    let r = running c.self.inside.node c.self.inside.is_cut c.args.self.now c.self.invariant c.self.view_is up in
    rw (goes_on c.args.self.now.log Crash up)
    (elim c.match-step.branch [
      | in-Ok w ↦ ap (λ (h : Host g.row.A.Denot). h.log) w.self-is ∙ cut_log c.self.inside.node c.step.new.self c.args.self.now Crash r.log w.in-Ok.ensures.log
      | in-Err w ↦ ap (λ (h : Host g.row.A.Denot). h.log) w.self-is
          ∙ ap (λ cut. (host_of c.step.new.self cut).log) r.whole
          ∙ stopped_log c.self.inside.node c.step.new.self c.args.self.now (no_ticket_for c.self.inside.node.log Crash) w.in-Err.field-0 r.log w.in-Err.ensures.err (w.in-Err.ensures.cause r.runs)
    ])

pub returns-after-step-clause-answers : goal.returns-after-step-clause-answers
returns-after-step-clause-answers g c id has =
    let up = sym c.is_up.ensures ∙ c.if-is_up.true in
    crashed_has id c.args.self.now.log c.match-step.self (returns-after-step-clause-log g c ∙ goes_on c.args.self.now.log Crash up)

pub returns-after-step-clause-crashed : goal.returns-after-step-clause-crashed
returns-after-step-clause-crashed g c =
    let up = sym c.is_up.ensures ∙ c.if-is_up.true in
    let r = running c.self.inside.node c.self.inside.is_cut c.args.self.now c.self.invariant c.self.view_is up in
    elim c.match-step.branch [
      | in-Ok w ↦ ap (λ (h : Host g.row.A.Denot). h.crashed) w.self-is ∙ sym r.uncrashed
      | in-Err w ↦ ap (λ (h : Host g.row.A.Denot). h.crashed) w.self-is
          ∙ ap (λ cut. (host_of c.step.new.self cut).crashed) r.whole
          ∙ stopped_crash c.step.new.self c.self.inside.node.log (no_ticket_for c.self.inside.node.log Crash) w.in-Err.field-0 w.in-Err.ensures.err (w.in-Err.ensures.cause r.runs) ∙ sym r.uncrashed
    ]
