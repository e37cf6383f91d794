-- The nodes of a world, as it keeps them: each with its answers, and with a crash in its log if it ran out of memory.
use Rattle.std.specs.Prelude.{◌≡◌, ℕ, zero, suc, ◌-◌, nat_lt, List, [], ◌∷◌, ◌++◌, map, set, true, false, Bool, Option, Some, None, slice_get, if◌then◌else◌}
use Rattle.std.specs.List.{list_any}
use Rattle.maildrop.specs.CommandId.{CommandId}
use Rattle.maildrop.specs.Ticket.{Ticket}
use Rattle.node.specs.Nodes.{NodeValue, Awaited, answer_of, answered, logged}
use Rattle.node.specs.Replay.{is_crash, sends_of, ticket_of}
use Rattle.node.specs.declared.input.Input.{Input}
use Rattle.node.specs.declared.input.Input.TheVariants.{Crash}
use Rattle.node.specs.declared.log.NodeLog.{NodeLog}
use Rattle.node.specs.declared.stopped.Stopped.{Stopped}
use Rattle.node.specs.declared.stopped.Stopped.TheVariants.{Crashed, Memory, TicketsUsed}
use Rattle.runs.specs.Messages.{Network, is_up, log_of, newly_sent, given_input, with_arrival}
use Rattle.runs.specs.declared.sent.Sent.{Sent}

-- a node: the log that a run knows, what is awaited of it, and whether an input has crashed it. One without memory has crashed only in that log
pub record Host (A : Type 0) : Type 0 where
  pub log : NodeLog A
  pub awaited : Awaited A
  pub crashed : Bool

-- the nodes, in the order of their numbers, and all messages, in the order in which they were sent
pub record Hosts (A : Type 0) : Type 0 where
  pub hosts : List (Host A)
  pub sent : List (Sent A)

abbrev pub without_last : {X : Type 0} → List X → List X
without_last [] = []
without_last (x ∷ []) = []
without_last (x ∷ y ∷ ys) = x ∷ without_last (y ∷ ys)

-- whether an input has crashed the node
abbrev pub has_crashed : Option Stopped → Bool
has_crashed (Some Crashed) = true
has_crashed _ = false

module _ {A : Type 0} where
  -- a run has a crash of a node that ran out of memory or tickets
  abbrev pub known_log : Option Stopped → NodeLog A → NodeLog A
  known_log None log = log
  known_log (Some Crashed) log = log
  known_log (Some Memory) log = logged log Crash
  known_log (Some TicketsUsed) log = logged log Crash

  -- and in place of the last input, if there was no memory for that or for its messages
  abbrev pub crashed_instead : NodeLog A → NodeLog A
  crashed_instead log = logged (record { opening = log.opening; inputs = without_last log.inputs }) Crash

  abbrev pub host_of : NodeValue A → Bool → Host A
  host_of node true = record { log = crashed_instead node.log; awaited = node.awaited; crashed = false }
  host_of node false = record { log = known_log node.stopped node.log; awaited = node.awaited; crashed = has_crashed node.stopped }

  -- a node that runs has no crash in its log, and one that has crashed has one
  abbrev pub IsLoggedSo : Option Stopped → NodeLog A → Type 0
  IsLoggedSo None log = list_any is_crash log.inputs ≡ false
  IsLoggedSo (Some Crashed) log = list_any is_crash log.inputs ≡ true
  IsLoggedSo (Some _) log = Unit {0}

  -- the answer to the command wasn't taken: while the node is up it is there as soon as the node has it
  abbrev pub HasAnswer : CommandId → Host A → Type 0
  HasAnswer id host = is_up (Some host.log) ≡ true → answer_of id host.awaited ≡ answered host.log id

  abbrev pub host_at : ℕ → List (Host A) → Option (Host A)
  host_at zero hosts = None
  host_at (suc n) hosts = slice_get hosts n

  abbrev pub logs_of : List (Host A) → List (NodeLog A)
  logs_of hosts = map (λ h. h.log) hosts

  abbrev pub network_of : Hosts A → Network A
  network_of w = record { logs = logs_of w.hosts; sent = w.sent }

  abbrev pub HasAnswerAt : ℕ → CommandId → Hosts A → Type 0
  HasAnswerAt n id w = (host : Host A) → host_at n w.hosts ≡ Some host → HasAnswer id host

  -- of each node, whether an input has crashed it
  abbrev pub crashes_of : Hosts A → List Bool
  crashes_of w = map (λ h. h.crashed) w.hosts

  -- what an input makes of a log, and what it sends after these messages, if the node is up
  abbrev pub log_after : NodeLog A → Input A → NodeLog A
  log_after log i = if is_up (Some log) then logged log i else log

  abbrev pub sent_after : NodeLog A → Input A → List (Sent A) → List (Sent A)
  sent_after log i sent = if is_up (Some log) then sent ++ newly_sent (sends_of log i) else sent

  -- whether an input has crashed the node, after one more
  abbrev pub crashed_by : Input A → Host A → Bool
  crashed_by Crash host = if is_up (Some host.log) then true else host.crashed
  crashed_by _ host = host.crashed

  -- of each node, after an input to this one
  abbrev pub crashes_after : Input A → ℕ → Hosts A → List Bool
  crashes_after Crash n w = if is_up (log_of n (network_of w).logs) then set (crashes_of w) (n - 1) true else crashes_of w
  crashes_after _ n w = crashes_of w

  -- the ticket that the node gives at an input, if it is up
  abbrev pub ticket_at : Option (NodeLog A) → Input A → Option Ticket
  ticket_at None i = None
  ticket_at (Some log) i = if is_up (Some log) then ticket_of log i else None

  -- whether one more arrival of the message can be counted
  abbrev pub can_count : Sent A → Bool
  can_count s = nat_lt s.arrived 18446744073709551615

  abbrev pub counted : ℕ → Network A → Network A
  counted which w = record { logs = w.logs; sent = with_arrival which w.sent }

  -- the addressee of a message crashes
  abbrev pub IsArrivalCut : Network A → Network A → Option (Sent A) → Type 0
  IsArrivalCut w new None = ⊥
  IsArrivalCut w new (Some s) = new ≡ given_input w s.envelope.to Crash
