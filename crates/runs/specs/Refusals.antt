-- Which events can't happen, and why.
use Rattle.std.specs.Prelude.{ℕ, List, Option, Some, None, is_some, slice_get, if◌then◌else◌}
use Rattle.std.specs.Option.{option_or}
use Rattle.apop.specs.Login.{account_named}
use Rattle.maildrop.specs.declared.outcome.Outcome.{Outcome}
use Rattle.node.specs.Nodes.{answered}
use Rattle.node.specs.declared.log.NodeLog.{NodeLog}
use Rattle.runs.specs.Clients.{Standing, Hears, Waits, Failed, Disconnected, Over, Client, client_of}
use Rattle.runs.specs.Messages.{log_of, is_up}
use Rattle.runs.specs.Services.{Service}
use Rattle.runs.specs.declared.config.Config.{Config}
use Rattle.runs.specs.declared.event.Event.{Event}
use Rattle.runs.specs.declared.event.Event.TheVariants as event
use Rattle.runs.specs.declared.refused.Refused.{Refused}
use Rattle.runs.specs.declared.refused.Refused.TheVariants.{NotSent, Down, NoSession, Busy, NoSuchUser, SessionExists, Memory}
use Rattle.runs.specs.declared.sent.Sent.{Sent}

-- the fixed numbers
abbrev pub refusal_number : Refused → ℕ
refusal_number NotSent = 1
refusal_number Down = 2
refusal_number NoSession = 3
refusal_number Busy = 4
refusal_number NoSuchUser = 5
refusal_number SessionExists = 6
refusal_number Memory = 7

module _ {A : Type 0} where
  -- if the node of this log is down that is told first
  abbrev pub unless_down : Option (NodeLog A) → Option Refused → Option Refused
  unless_down log refusal = if is_up log then refusal else Some Down

  abbrev pub node_refusal : Service A → ℕ → Option Refused
  node_refusal w node = unless_down (log_of node w.network.logs) None

  abbrev pub connect_refusal : Service A → ℕ → Option (Client A) → Option Refused
  connect_refusal w node None = node_refusal w node
  connect_refusal w node (Some known) = Some SessionExists

  abbrev pub line_refusal : Option (NodeLog A) → Standing A → Option Refused
  line_refusal log (Hears state) = unless_down log None
  line_refusal log (Waits state id) = unless_down log (Some Busy)
  line_refusal log (Failed lock) = Some NoSession
  line_refusal log Disconnected = Some Down
  line_refusal log Over = Some NoSession

  abbrev pub hangup_refusal : Option (NodeLog A) → Standing A → Option Refused
  hangup_refusal log (Hears state) = unless_down log None
  hangup_refusal log (Waits state id) = unless_down log (Some Busy)
  hangup_refusal log (Failed lock) = unless_down log None
  hangup_refusal log Disconnected = Some Down
  hangup_refusal log Over = Some NoSession

  abbrev pub busy_without : Option (Outcome A) → Option Refused
  busy_without None = Some Busy
  busy_without (Some outcome) = None

  -- whether the answer to what the session awaits is there
  abbrev pub answer_there : Option (NodeLog A) → Standing A → Option (Outcome A)
  answer_there (Some log) (Waits state id) = answered log id
  answer_there log standing = None

  abbrev pub collect_refusal : Option (NodeLog A) → Standing A → Option Refused
  collect_refusal log (Hears state) = unless_down log (Some Busy)
  collect_refusal log (Waits state id) = unless_down log (busy_without (answer_there log (Waits state id)))
  collect_refusal log (Failed lock) = Some NoSession
  collect_refusal log Disconnected = Some Down
  collect_refusal log Over = Some NoSession

  abbrev pub client_refusal : Service A → Option (Client A) → (Option (NodeLog A) → Standing A → Option Refused) → Option Refused
  client_refusal w None refusal = Some NoSession
  client_refusal w (Some c) refusal = refusal (log_of c.node w.network.logs) c.standing

  abbrev pub arrival_refusal : Service A → Option (Sent A) → Option Refused
  arrival_refusal w None = Some NotSent
  arrival_refusal w (Some sent) = node_refusal w sent.envelope.to

  -- why an event can't happen in a run, if it can't
  abbrev pub refusal_of : Service A → Event A → Option Refused
  refusal_of w (event.Connect session node stamp) = connect_refusal w node (client_of session w.clients)
  refusal_of w (event.Line session line) = client_refusal w (client_of session w.clients) line_refusal
  refusal_of w (event.Hangup session) = client_refusal w (client_of session w.clients) hangup_refusal
  refusal_of w (event.Collect session) = client_refusal w (client_of session w.clients) collect_refusal
  refusal_of w (event.Mail node user text key) = node_refusal w node
  refusal_of w (event.Break node user) = node_refusal w node
  refusal_of w (event.Arrive which) = arrival_refusal w (slice_get w.network.sent which)
  refusal_of w (event.Tick node) = node_refusal w node
  refusal_of w (event.Campaign node) = node_refusal w node
  refusal_of w (event.Crash node) = node_refusal w node

  abbrev pub unless_known : Config A → List ℕ → Option Refused
  unless_known cfg user = if is_some (account_named cfg.accounts user) then None else Some NoSuchUser

  -- Mail and a Break for a user without a maildrop could happen, and their outcome would say so. A caller is told before
  abbrev pub user_refusal : Config A → Event A → Option Refused
  user_refusal cfg (event.Mail node user text key) = unless_known cfg user
  user_refusal cfg (event.Break node user) = unless_known cfg user
  user_refusal cfg event = None

  -- why a caller's event is refused, if it is
  abbrev pub step_refusal : Config A → Service A → Event A → Option Refused
  step_refusal cfg w event = option_or (refusal_of w event) (user_refusal cfg event)
