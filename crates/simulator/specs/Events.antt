-- The commands of a script that are events of the service, and the events that are Mails or Breaks.
use Rattle.std.specs.Prelude.{ℕ, List, Option, Some, None}
use Rattle.script.specs.Written.{lines_of}
use Rattle.script.specs.declared.command.Command.{Command}
use Rattle.script.specs.declared.command.Command.TheVariants as command
use Rattle.runs.specs.declared.event.Event.{Event}
use Rattle.runs.specs.declared.event.Event.TheVariants as event

module _ {A : Type 0} where
  -- the event that a command names whole, if the greetings have this host
  abbrev pub event_of : List ℕ → Command → Option (Event A)
  event_of host (command.Mail node user key written) = Some (event.Mail node user (lines_of written) key)
  event_of host (command.Break node user) = Some (event.Break node user)
  event_of host (command.Connect session node nonce) = Some (event.Connect session node (record { nonce = nonce; host = host }))
  event_of host (command.Line session line) = Some (event.Line session line)
  event_of host (command.Hangup session) = Some (event.Hangup session)
  event_of host (command.Tick node) = Some (event.Tick node)
  event_of host (command.Campaign node) = Some (event.Campaign node)
  event_of host (command.Crash node) = Some (event.Crash node)
  event_of host command = None

  -- the node and the user of a Mail or a Break
  abbrev pub operation_in : Event A → Option (ℕ × List ℕ)
  operation_in (event.Mail node user text key) = Some (node, user)
  operation_in (event.Break node user) = Some (node, user)
  operation_in event = None
