-- The tickets of a lone session.
use Rattle.std.specs.Prelude.{ℕ}
use Rattle.maildrop.specs.Ticket.{Ticket}

-- they are those of node 1, counted from 1
abbrev pub ticket_of : ℕ → Ticket
ticket_of number = record { node = 1; seq = number }
