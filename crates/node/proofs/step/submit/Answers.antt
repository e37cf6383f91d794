use Rattle.std.proofs.Common.{◌∙◌, ap, sym, refl, Some}
use Rattle.std.proofs.lemmas.Bool.{true≢false}
use Rattle.maildrop.specs.declared.command.Command.{Command}
use Rattle.node.specs.Roles.{submits}
use Rattle.node.specs.Tickets.{has_all_tickets}
use Rattle.node.proofs.Views.{moved_to}
use Rattle.node.proofs.Giving.{ticket_is, command_is}
use Rattle.node.proofs.step.submit.Goals as goal

pub returns-clause-node : goal.returns-clause-node
returns-clause-node g c n is =
    moved_to _ _ _ n is c.in_ok-sends.ensures.node
    ∙ ap (λ (d : Command g.row.A.Denot). Some (submits n d).after)
    (c.in_ok-command.ensures ∙ command_is c.args.log.now c.args.given.now.entries c.args.user c.in-Some.ticket c.args.op.now c.in_ok-op.op c.requires c.in-Some.ensures.ticket (c.in_ok-op.ensures.value ∙ c.get.ensures))

pub returns-clause-sends : goal.returns-clause-sends
returns-clause-sends g c n is =
    c.in_ok-sends.ensures.sends n is
    ∙ ap (λ (d : Command g.row.A.Denot). (submits n d).sends)
    (c.in_ok-command.ensures ∙ command_is c.args.log.now c.args.given.now.entries c.args.user c.in-Some.ticket c.args.op.now c.in_ok-op.op c.requires c.in-Some.ensures.ticket (c.in_ok-op.ensures.value ∙ c.get.ensures))

pub returns-clause-ticket : goal.returns-clause-ticket
returns-clause-ticket g c = ap (λ t. Some t) (ticket_is c.args.log.now c.args.given.now.entries c.args.user c.in-Some.ticket c.requires c.in-Some.ensures.ticket)

pub returns-clause-used : goal.returns-clause-used
returns-clause-used g c used = absurd (true≢false (sym (ap has_all_tickets (c.requires c.args.user) ∙ used) ∙ c.in-Some.ensures.left.0 refl))
