-- What the desk of a lone session gives.
use Rattle.std.specs.Prelude.{◌≡◌, ◌+◌, ◌<◌, ◌^◌, false, Option, Some, None, IfSome, is_some}
use Rattle.maildrop.specs.Ticket.{Ticket}
use Rattle.maildrop.specs.Office.{outcome_in, users_after, takes_memory_in}
use Rattle.maildrop.specs.declared.command.Command.{Command}
use Rattle.session.specs.Desks.{Given}
use Rattle.server.specs.Tickets.{ticket_of}
use Rattle.server.specs.declared.lone_desk.LoneDesk.{LoneDesk}

module _ {A : Type 0} where
  abbrev pub command_of : Given A → Ticket → Command A
  command_of given ticket = record { user = given.user; ticket = ticket; op = given.op }

  -- the operation takes no memory, and there is a ticket for it
  abbrev pub IsSure : LoneDesk A → Given A → Type 0
  IsSure desk given =
      (takes_memory_in desk.office (command_of given (ticket_of desk.next)) ≡ false) × (0 < desk.next) × (desk.next + 1 < 2 ^ 64)

  -- if it gave no ticket it did nothing, and could find too little memory or had no ticket left; if it gave one it
  -- gave also the outcome that is awaited
  abbrev pub GivesTicket : LoneDesk A → Given A → LoneDesk A → Option Ticket → Type 0
  GivesTicket old given new None = (new ≡ old) × (given.outcome ≡ None) × ¬ IsSure old given
  GivesTicket old given new (Some ticket) =
      (ticket ≡ ticket_of old.next)
      × (new.office ≡ users_after old.office (command_of given ticket))
      × (new.next ≡ old.next + 1)
      × IfSome given.outcome (λ outcome. outcome ≡ outcome_in old.office (command_of given ticket))
      × (is_some given.outcome ≡ given.awaited)

  -- the office performs each operation under the next ticket
  abbrev pub Gives : LoneDesk A → Given A → LoneDesk A → Type 0
  Gives old given new = GivesTicket old given new given.ticket
