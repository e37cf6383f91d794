use Rattle.std.proofs.Common.{◌∙◌, ap, ◌++◌, sym}
use Rattle.node.specs.Replay.{sends_of, ticket_of}
use Rattle.node.specs.declared.log.NodeLog.{NodeLog}
use Rattle.node.specs.Nodes.{no_ticket_for}
use Rattle.world.specs.Hosts.{host_of}
use Rattle.runs.specs.Messages.{newly_sent}
use Rattle.world.proofs.Hosting.{running, step_logged, step_log, step_has, cut_log, stopped_log}
use Rattle.world.proofs.Crashes.{step_crash, stopped_crash}
use Rattle.world.proofs.host.Host.take.Goals as goal

pub invariant_of-self : goal.invariant_of-self
invariant_of-self g c =
    let r = running c.self.inside.node c.self.inside.is_cut c.args.self.now c.self.invariant c.self.view_is c.requires in
    step_logged c.self.inside.node c.step.new.self c.args.input r.no_crash c.in-Ok.ensures.log c.in-Ok.ensures.stops

pub invariant_of-self-in-Err-add_all : goal.invariant_of-self-in-Err-add_all
invariant_of-self-in-Err-add_all g c =
    let r = running c.self.inside.node c.self.inside.is_cut c.args.self.now c.self.invariant c.self.view_is c.requires in
    step_logged c.self.inside.node c.step.new.self c.args.input r.no_crash c.in-Ok.ensures.log c.in-Ok.ensures.stops

pub returns-in-Ok-add_all-clause-log : goal.returns-in-Ok-add_all-clause-log
returns-in-Ok-add_all-clause-log g c =
    let r = running c.self.inside.node c.self.inside.is_cut c.args.self.now c.self.invariant c.self.view_is c.requires in
    ap (λ u. (host_of c.step.new.self u).log) r.whole ∙ step_log c.self.inside.node c.step.new.self c.args.self.now c.args.input r.log c.in-Ok.ensures.log c.in-Ok.ensures.stops

pub returns-in-Ok-add_all-clause-sent : goal.returns-in-Ok-add_all-clause-sent
returns-in-Ok-add_all-clause-sent g c =
    let r = running c.self.inside.node c.self.inside.is_cut c.args.self.now c.self.invariant c.self.view_is c.requires in
    c.in-Ok-add_all.ensures.ok ∙ ap (λ es. c.args.sent.now ++ newly_sent es) (c.in-Ok.ensures.sends ∙ ap (λ (l : NodeLog g.row.A.Denot). sends_of l c.args.input) r.log)

pub returns-in-Ok-add_all-clause-ticket : goal.returns-in-Ok-add_all-clause-ticket
returns-in-Ok-add_all-clause-ticket g c =
    let r = running c.self.inside.node c.self.inside.is_cut c.args.self.now c.self.invariant c.self.view_is c.requires in
    c.in-Ok.ensures.ticket ∙ ap (λ (l : NodeLog g.row.A.Denot). ticket_of l c.args.input) r.log

pub returns-in-Ok-add_all-clause-answers : goal.returns-in-Ok-add_all-clause-answers
returns-in-Ok-add_all-clause-answers g c id has =
    let r = running c.self.inside.node c.self.inside.is_cut c.args.self.now c.self.invariant c.self.view_is c.requires in
    rw (r.whole) (step_has c.self.inside.node c.step.new.self c.self.inside.is_cut c.args.self.now c.args.input r c.requires c.in-Ok.ensures.log c.in-Ok.ensures.stops c.in-Ok.ensures.answers id has)

pub returns-in-Err-add_all-clause-crashed : goal.returns-in-Err-add_all-clause-crashed
returns-in-Err-add_all-clause-crashed g c =
    let r = running c.self.inside.node c.self.inside.is_cut c.args.self.now c.self.invariant c.self.view_is c.requires in
    cut_log c.self.inside.node c.step.new.self c.args.self.now c.args.input r.log c.in-Ok.ensures.log

pub returns-in-Err-clause-crashed : goal.returns-in-Err-clause-crashed
returns-in-Err-clause-crashed g c =
    let r = running c.self.inside.node c.self.inside.is_cut c.args.self.now c.self.invariant c.self.view_is c.requires in
    ap (λ u. (host_of c.step.new.self u).log) r.whole
    ∙ stopped_log c.self.inside.node c.step.new.self c.args.self.now (no_ticket_for c.self.inside.node.log c.args.input) c.in-Err.field-0 r.log c.in-Err.ensures.err (c.in-Err.ensures.cause r.runs)

pub returns-in-Ok-add_all-clause-input : goal.returns-in-Ok-add_all-clause-input
returns-in-Ok-add_all-clause-input g c =
    let r = running c.self.inside.node c.self.inside.is_cut c.args.self.now c.self.invariant c.self.view_is c.requires in
    ap (λ u. (host_of c.step.new.self u).crashed) r.whole ∙ step_crash c.step.new.self c.args.self.now c.args.input c.in-Ok.ensures.stops r.uncrashed c.requires

pub returns-in-Err-add_all-clause-cut : goal.returns-in-Err-add_all-clause-cut
returns-in-Err-add_all-clause-cut g c =
    let r = running c.self.inside.node c.self.inside.is_cut c.args.self.now c.self.invariant c.self.view_is c.requires in
    sym r.uncrashed

pub returns-in-Err-clause-cut : goal.returns-in-Err-clause-cut
returns-in-Err-clause-cut g c =
    let r = running c.self.inside.node c.self.inside.is_cut c.args.self.now c.self.invariant c.self.view_is c.requires in
    ap (λ u. (host_of c.step.new.self u).crashed) r.whole
    ∙ stopped_crash c.step.new.self c.self.inside.node.log (no_ticket_for c.self.inside.node.log c.args.input) c.in-Err.field-0 c.in-Err.ensures.err (c.in-Err.ensures.cause r.runs) ∙ sym r.uncrashed
