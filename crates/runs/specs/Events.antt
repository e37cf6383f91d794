-- The sessions that events are about.
use Rattle.std.specs.Prelude.{ℕ, Option, Some, None}
use Rattle.runs.specs.declared.event.Event.{Event}
use Rattle.runs.specs.declared.event.Event.TheVariants as event

module _ {A : Type 0} where
  -- the session that an event is about, if it is about one
  abbrev pub session_of : Event A → Option ℕ
  session_of (event.Connect session node stamp) = Some session
  session_of (event.Line session line) = Some session
  session_of (event.Hangup session) = Some session
  session_of (event.Collect session) = Some session
  session_of event = None
