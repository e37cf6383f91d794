-- The command that a Submit brings, by the tickets that were given before.
use Rattle.std.proofs.Common.{◌≡◌, ℕ, ◌+◌, List, ap, ◌∙◌}
use Rattle.maildrop.specs.Ticket.{Ticket}
use Rattle.maildrop.specs.declared.op.Op.{Op}
use Rattle.node.specs.Replay.{next_ticket, command_for}
use Rattle.node.specs.Tickets.{tickets_of}
use Rattle.node.specs.Nodes.{AreGiven}
use Rattle.node.specs.declared.log.NodeLog.{NodeLog}

module _ {A : Type 0} where
  pub ticket_is : (log : NodeLog A) (given : List (List ℕ × ℕ)) (user : List ℕ) (ticket : Ticket) → AreGiven log.inputs given → ticket ≡ record { node = log.opening.me; seq = 1 + tickets_of user given }
      → ticket ≡ next_ticket log.opening.me user log.inputs
  ticket_is log given user ticket h is = is ∙ ap (λ (n : ℕ). record { node = log.opening.me; seq = 1 + n }) (h user)

  pub command_is : (log : NodeLog A) (given : List (List ℕ × ℕ)) (user : List ℕ) (ticket : Ticket) (op copied : Op A) → AreGiven log.inputs given → ticket ≡ record { node = log.opening.me; seq = 1 + tickets_of user given } → copied ≡ op
      → record { user = user; ticket = ticket; op = copied } ≡ command_for log.opening.me user op log.inputs
  command_is log given user ticket op copied h is same =
      ap (λ (t : Ticket). record { user = user; ticket = t; op = copied }) (ticket_is log given user ticket h is)
      ∙ ap (λ (o : Op A). command_for log.opening.me user o log.inputs) same
