-- Nodes and the messages between them: what a run does to both.
use Rattle.std.specs.Prelude.{◌≡◌, ℕ, zero, suc, ◌+◌, ◌-◌, List, [], ◌∷◌, ◌++◌, map, Bool, false, not, Option, Some, None, slice_get, set, if◌then◌else◌}
use Rattle.std.specs.List.{list_any}
use Rattle.std.specs.Option.{option_map_or}
use Rattle.ballot.specs.declared.message.Envelope.{Envelope}
use Rattle.maildrop.specs.declared.command.Command.{Command}
use Rattle.maildrop.specs.declared.op.Op.{Op}
use Rattle.maildrop.specs.Same.{identity_of}
use Rattle.maildrop.specs.Ticket.{Ticket}
use Rattle.node.specs.Replay.{sends_of, is_crash, last_ticket}
use Rattle.node.specs.Nodes.{logged}
use Rattle.node.specs.Submits.{IsSubmitted}
use Rattle.node.specs.declared.input.Input.{Input}
use Rattle.node.specs.declared.input.Input.TheVariants.{Submit, Arrive, Tick, Campaign, Crash}
use Rattle.node.specs.declared.log.Opening.{Opening}
use Rattle.node.specs.declared.log.NodeLog.{NodeLog}
use Rattle.runs.specs.declared.sent.Sent.{Sent}

-- the logs of the nodes, in the order of their numbers, and all messages, in the order in which they were sent
pub record Network (A : Type 0) : Type 0 where
  pub logs : List (NodeLog A)
  pub sent : List (Sent A)

-- what happens to the nodes of a run
pub data NodeEvent (A : Type 0) : Type 0 where
  Submits : (node : ℕ) → (name : List ℕ) → (op : Op A) → NodeEvent A
  -- the message that was sent as the number `which`, from 0
  Arrives : (which : ℕ) → NodeEvent A
  Ticks : (node : ℕ) → NodeEvent A
  Campaigns : (node : ℕ) → NodeEvent A
  Crashes : (node : ℕ) → NodeEvent A

module _ {A : Type 0} where
  -- the ticket that a node with this log gave last to the user
  abbrev pub last_ticket_of : NodeLog A → List ℕ → Option Ticket
  last_ticket_of log user = last_ticket log.opening.me user log.inputs

  -- the log of the node, if there is such a node
  abbrev pub log_of : ℕ → List (NodeLog A) → Option (NodeLog A)
  log_of zero logs = None
  log_of (suc n) logs = slice_get logs n

  -- whether there is such a node, and it hasn't crashed
  abbrev pub is_up : Option (NodeLog A) → Bool
  is_up found = option_map_or (λ log. not (list_any is_crash log.inputs)) found false

  -- what nodes send, which hasn't arrived yet
  abbrev pub newly_sent : List (Envelope (Command A) A) → List (Sent A)
  newly_sent envelopes = map (λ e. record { envelope = e; arrived = 0 }) envelopes

  -- the node takes an input, and what it sends is sent. A node that isn't there or has crashed takes none
  abbrev pub given_input : Network A → ℕ → Input A → Network A
  given_input w n i =
      let sends : NodeLog A → List (Sent A) = λ log. map (λ e. record { envelope = e; arrived = 0 }) (sends_of log i) in
      let next : NodeLog A → Network A = λ log. record { logs = set w.logs (n - 1) (logged log i); sent = w.sent ++ sends log } in
      option_map_or (λ log. if is_up (Some log) then next log else w) (log_of n w.logs) w

  -- a message that was sent arrives once more
  abbrev pub with_arrival : ℕ → List (Sent A) → List (Sent A)
  with_arrival k [] = []
  with_arrival zero (s ∷ ss) = record { envelope = s.envelope; arrived = s.arrived + 1 } ∷ ss
  with_arrival (suc k) (s ∷ ss) = s ∷ with_arrival k ss

  -- it comes to the node that it is for, if that is up
  abbrev pub message_arrives : Network A → ℕ → Option (Sent A) → Network A
  message_arrives w k found =
      let counted : Network A = record w { sent = with_arrival k w.sent } in
      let after : Sent A → Network A = λ s. given_input counted s.envelope.to (Arrive s.envelope) in
      option_map_or (λ s. if is_up (log_of s.envelope.to w.logs) then after s else w) found w

  -- what can't happen changes nothing
  abbrev pub after_node_event : Network A → NodeEvent A → Network A
  after_node_event w (Submits n name op) = given_input w n (Submit name op)
  after_node_event w (Arrives k) = message_arrives w k (slice_get w.sent k)
  after_node_event w (Ticks n) = given_input w n Tick
  after_node_event w (Campaigns n) = given_input w n Campaign
  after_node_event w (Crashes n) = given_input w n Crash

  abbrev pub after_node_events : Network A → List (NodeEvent A) → Network A
  after_node_events w [] = w
  after_node_events w (e ∷ es) = after_node_events (after_node_event w e) es

  -- the logs of m nodes, from number n on, that begin alike but for their numbers
  abbrev pub new_logs : Opening A → ℕ → ℕ → List (NodeLog A)
  new_logs first n zero = []
  new_logs first n (suc m) = record { opening = record first { me = n }; inputs = [] } ∷ new_logs first (suc n) m

  abbrev pub new_network : Opening A → Network A
  new_network first = record { logs = new_logs first 1 first.cluster; sent = [] }

  -- a run: what these events lead to, where nodes begin as `first` does, each with its own number; the number in `first` counts for nothing
  abbrev pub network_of : Opening A → List (NodeEvent A) → Network A
  network_of first events = after_node_events (new_network first) events

  abbrev pub envelopes : Network A → List (Envelope (Command A) A)
  envelopes w = map (λ s. s.envelope) w.sent

  -- the command was submitted at the node of its ticket, which gave it that ticket
  abbrev pub WasSubmitted : List (NodeLog A) → Command A → Type 0
  WasSubmitted logs c = (log : NodeLog A) × (log_of c.ticket.node logs ≡ Some log) × IsSubmitted log (identity_of c) c.op

  -- what an input makes of the network, by the log of the node that takes it, for lemmas by cases of the log
  abbrev pub taken_by : Network A → ℕ → Input A → Option (NodeLog A) → Network A
  taken_by w n i found =
      option_map_or (λ log. if is_up (Some log) then record { logs = set w.logs (n - 1) (logged log i); sent = w.sent ++ newly_sent (sends_of log i) } else w) found w
