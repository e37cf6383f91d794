-- What a session did, turn by turn.
use Rattle.std.specs.Prelude.{ℕ, suc, Bool, true, false, List, [], ◌∷◌, ◌++◌, Option, Some, None, ◌==◌, ◌&&◌, is_some, is_none, if◌then◌else◌}
use Rattle.std.specs.List.{list_any}
use Rattle.maildrop.specs.CommandId.{CommandId}
use Rattle.maildrop.specs.Ticket.{Ticket}
use Rattle.maildrop.specs.declared.outcome.Outcome.{Outcome}
use Rattle.node.specs.declared.input.Input.{Input}
use Rattle.node.specs.declared.input.Input.TheVariants.{Submit}
use Rattle.pop3_wire.specs.declared.line.Line.{Line}
use Rattle.session.specs.declared.transcript.Asked.{Asked}
use Rattle.session.specs.declared.transcript.Transcript.{Transcript}
use Rattle.audit.specs.Case.{Turn, Plain, Asks}

-- a session's turns: its lines, and the Free of a hangup
abbrev pub Turns : Type 0 → Type 0
Turns A = List (Turn (Input A) CommandId (Outcome A) Line)

abbrev pub is_of_line : ℕ → Option ℕ → Bool
is_of_line number None = false
is_of_line number (Some line) = number == line

abbrev pub is_empty : {X : Type 0} → List X → Bool
is_empty [] = true
is_empty (x ∷ xs) = false

module _ {A : Type 0} where
  -- what an entry submits. One without a ticket submits nothing: its node had stopped, and its line isn't a turn
  abbrev pub asks_by : Option Line → Asked A → Option Ticket → Turns A
  asks_by line entry None = []
  asks_by line entry (Some ticket) = Asks line (Submit entry.name entry.op) (record { user = entry.name; ticket = ticket }) entry.outcome ∷ []

  abbrev pub asks : Option Line → Asked A → Turns A
  asks line entry = asks_by line entry entry.ticket

  -- entries that no line is left for
  abbrev pub hangups : List (Asked A) → Turns A
  hangups [] = []
  hangups (entry ∷ entries) = asks None entry ++ hangups entries

  -- the line of a number asks if the next entry is its
  abbrev pub turn_of : ℕ → Line → (List (Asked A) → Turns A) → List (Asked A) → Turns A
  turn_of number line rest [] = Plain line ∷ rest []
  turn_of number line rest (entry ∷ entries) =
      if is_of_line number entry.line then asks (Some line) entry ++ rest entries else Plain line ∷ rest (entry ∷ entries)

  -- lines, the first of this number, and entries
  abbrev pub turns_from : ℕ → List Line → List (Asked A) → Turns A
  turns_from number [] entries = hangups entries
  turns_from number (line ∷ lines) entries = turn_of number line (turns_from (suc number) lines) entries

  -- a transcript of a session that didn't begin
  abbrev pub is_blank : Transcript A → Bool
  is_blank t = is_empty t.greeting && (is_empty t.lines && is_empty t.asked)

  abbrev pub script_of : Transcript A → Option (Turns A)
  script_of t = if is_blank t then None else Some (turns_from 0 t.lines t.asked)

  -- an outcome without a ticket
  abbrev pub is_untold : Asked A → Bool
  is_untold entry = is_none entry.ticket && is_some entry.outcome

  abbrev pub is_loose : Option (Transcript A) → Bool
  is_loose None = false
  is_loose (Some t) = list_any is_untold t.asked
