-- What a run has in place of an event for which there was no memory.
use Rattle.std.specs.Prelude.{◌≡◌, ℕ, Option, Some, None, ◌⊎◌, slice_get}
use Rattle.runs.specs.Clients.{Client, client_of}
use Rattle.runs.specs.Services.{Service, Occurs, Lost, happens}
use Rattle.runs.specs.declared.config.Config.{Config}
use Rattle.runs.specs.declared.event.Event.{Event}
use Rattle.runs.specs.declared.event.Event.TheVariants as event
use Rattle.runs.specs.declared.sent.Sent.{Sent}

module _ {A : Type 0} where
  -- the node crashes
  abbrev pub IsCrashed : Config A → ℕ → Service A → Service A → Type 0
  IsCrashed cfg node w later = later ≡ happens cfg w (Occurs (event.Crash node))

  -- the session is lost
  abbrev pub IsSessionLost : Config A → ℕ → Service A → Service A → Type 0
  IsSessionLost cfg session w later = later ≡ happens cfg w (Lost session)

  -- the node of a client crashes
  abbrev pub IsItsCrashed : Config A → Option (Client A) → Service A → Service A → Type 0
  IsItsCrashed cfg None w later = ⊥
  IsItsCrashed cfg (Some c) w later = IsCrashed cfg c.node w later

  -- the addressee of a message crashes
  abbrev pub IsAddresseeCrashed : Config A → Option (Sent A) → Service A → Service A → Type 0
  IsAddresseeCrashed cfg None w later = ⊥
  IsAddresseeCrashed cfg (Some sent) w later = IsCrashed cfg sent.envelope.to w later

  -- by the event: the node that finds no memory crashes, or the session is lost. A client that connects is as if it hadn't
  abbrev pub IsInterrupted : Config A → Event A → Service A → Service A → Type 0
  IsInterrupted cfg (event.Connect session node stamp) w later = later ≡ w
  IsInterrupted cfg (event.Line session line) w later = IsSessionLost cfg session w later ⊎ IsItsCrashed cfg (client_of session w.clients) w later
  IsInterrupted cfg (event.Hangup session) w later = IsItsCrashed cfg (client_of session w.clients) w later
  IsInterrupted cfg (event.Collect session) w later = IsSessionLost cfg session w later
  IsInterrupted cfg (event.Mail node user text key) w later = IsCrashed cfg node w later
  IsInterrupted cfg (event.Break node user) w later = IsCrashed cfg node w later
  IsInterrupted cfg (event.Arrive which) w later = IsAddresseeCrashed cfg (slice_get w.network.sent which) w later
  IsInterrupted cfg (event.Tick node) w later = IsCrashed cfg node w later
  IsInterrupted cfg (event.Campaign node) w later = IsCrashed cfg node w later
  IsInterrupted cfg (event.Crash node) w later = IsCrashed cfg node w later
