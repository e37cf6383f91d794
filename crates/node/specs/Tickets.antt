-- How many tickets users have got.
use Rattle.std.specs.Prelude.{◌≡◌, ℕ, ◌==◌, List, Bool, true, Option, Some, None, if◌then◌else◌}
use Rattle.std.specs.Map.{lookup}
use Rattle.std.specs.Str.{bytes_eq}
use Rattle.maildrop.specs.Ticket.{Ticket}
use Rattle.node.specs.declared.stopped.Stopped.{Stopped}
use Rattle.node.specs.declared.stopped.Stopped.TheVariants.{Crashed, Memory, TicketsUsed}

abbrev or_none : Option ℕ → ℕ
or_none None = 0
or_none (Some n) = n

-- how many tickets the user has got, by a table that holds those who have got one
abbrev pub tickets_of : List ℕ → List (List ℕ × ℕ) → ℕ
tickets_of name given = or_none (lookup (bytes_eq name) given)

-- the highest number of a ticket
abbrev pub LAST_TICKET : ℕ
LAST_TICKET = 18446744073709551615

-- whether a user who has got so many tickets has got the last one
abbrev pub has_all_tickets : ℕ → Bool
has_all_tickets given = given == LAST_TICKET

-- a node's ticket of this number, of which there is none for 0
abbrev pub ticket_at : ℕ → ℕ → Option Ticket
ticket_at me number = if number == 0 then None else Some (record { node = me; seq = number })

-- what can stop a node at an input, by whether it is for a user who has got the last ticket: such an input isn't taken
abbrev pub CanStop : Bool → Stopped → Type 0
CanStop used Crashed = ⊥
CanStop used Memory = Unit {0}
CanStop used TicketsUsed = used ≡ true
