-- What contracts see of a world: a service, and what its caller may take of it. A node that has found no memory is seen as
-- one that has crashed.
use Rattle.std.specs.Prelude.{◌≡◌, ℕ, zero, suc, ◌+◌, ◌==◌, ◌&&◌, nat_lt, Bool, true, false, List, [], ◌∷◌, ◌++◌, drop, find, position, Option, Some, None, is_some, option_map, if◌then◌else◌}
use Rattle.std.specs.Option.{option_or}
use Rattle.std.specs.Map.{lookup, set_value}
use Rattle.maildrop.specs.CommandId.{CommandId, same_id}
use Rattle.maildrop.specs.Ticket.{Ticket}
use Rattle.maildrop.specs.declared.command.Command.{Command}
use Rattle.maildrop.specs.declared.outcome.Outcome.{Outcome}
use Rattle.node.specs.Nodes.{answered}
use Rattle.node.specs.Replay.{replayed}
use Rattle.node.specs.declared.log.NodeLog.{NodeLog}
use Rattle.runs.specs.Clients.{Standing, Waits, Client}
use Rattle.runs.specs.Messages.{log_of, is_up, last_ticket_of}
use Rattle.runs.specs.Services.{Service, Happening, next_id, new_service, occurs, run_of}
use Rattle.runs.specs.declared.config.Config.{Config}
use Rattle.runs.specs.declared.event.Event.{Event}
use Rattle.runs.specs.declared.event.Event.TheVariants as event
use Rattle.runs.specs.declared.sent.Sent.{Sent}

pub record World (A : Type 0) : Type 0 where
  pub config : Config A
  pub service : Service A
  -- the commands of Mails and Breaks, in order, each with whether its outcome was taken
  pub operations : List (CommandId × Bool)

-- how many events these were, and where they led
pub record Settled (A : Type 0) : Type 0 where
  pub events : ℕ
  pub world : World A

-- where the last of a list that passes stands
abbrev pub last_position : {X : Type 0} → (X → Bool) → List X → Option ℕ
last_position test [] = None
last_position test (x ∷ xs) = option_or (option_map (λ k. k + 1) (last_position test xs)) (if test x then Some 0 else None)

-- the outcome of this command was taken
abbrev pub with_taken : CommandId → List (CommandId × Bool) → List (CommandId × Bool)
with_taken id operations = set_value (same_id id) operations true

module _ {A : Type 0} where
  -- some run leads to the service
  abbrev pub IsReached : Config A → Service A → Type 0
  IsReached cfg w = (happenings : List (Happening A)) × (run_of cfg happenings ≡ w)

  abbrev pub new_world : Config A → World A
  new_world cfg = record { config = cfg; service = new_service cfg; operations = [] }

  abbrev pub operation_at : Option (NodeLog A) → List ℕ → List (CommandId × Bool)
  operation_at None user = []
  operation_at (Some log) user = (next_id log user, false) ∷ []

  -- the command that a Mail or a Break brings
  abbrev pub operation_of : Service A → Event A → List (CommandId × Bool)
  operation_of w (event.Mail node user text key) = operation_at (log_of node w.network.logs) user
  operation_of w (event.Break node user) = operation_at (log_of node w.network.logs) user
  operation_of w event = []

  -- after an event that can happen
  abbrev pub stepped : World A → Event A → World A
  stepped w event = record w { service = occurs w.config w.service event; operations = w.operations ++ operation_of w.service event }

  -- the answer to the command that its node has got, if the node is up
  abbrev pub answer_at : Option (NodeLog A) → CommandId → Option (Outcome A)
  answer_at None id = None
  answer_at (Some log) id = if is_up (Some log) then answered log id else None

  -- the outcome of a Mail or a Break that wasn't taken
  abbrev pub unless_taken : Option Bool → Option (Outcome A) → Option (Outcome A)
  unless_taken (Some false) outcome = outcome
  unless_taken taken outcome = None

  abbrev pub outcome_left : World A → CommandId → Option (Outcome A)
  outcome_left w id = unless_taken (lookup (same_id id) w.operations) (answer_at (log_of id.ticket.node w.service.network.logs) id)

  -- once its outcome is taken, if it is there
  abbrev pub without_outcome : World A → CommandId → World A
  without_outcome w id = if is_some (outcome_left w id) then record w { operations = with_taken id w.operations } else w

  -- the same at a node: a node has the outcomes of the commands that it gave their tickets
  abbrev pub outcome_at : World A → ℕ → CommandId → Option (Outcome A)
  outcome_at w node id = if node == id.ticket.node then outcome_left w id else None

  abbrev pub without_outcome_at : World A → ℕ → CommandId → World A
  without_outcome_at w node id = if node == id.ticket.node then without_outcome w id else w

  abbrev pub performed_in : Option (NodeLog A) → Option (List (ℕ × Command A))
  performed_in log = option_map (λ l. (replayed l).replica.performed) log

  -- what a node has performed, in order, each command with its slot
  abbrev pub performed_by : Service A → ℕ → Option (List (ℕ × Command A))
  performed_by w node = performed_in (log_of node w.network.logs)

  abbrev pub last_ticket_in : Option (NodeLog A) → List ℕ → Option Ticket
  last_ticket_in None user = None
  last_ticket_in (Some log) user = last_ticket_of log user

  -- the ticket that a node gave last to the user
  abbrev pub last_ticket : Service A → ℕ → List ℕ → Option Ticket
  last_ticket w node user = last_ticket_in (log_of node w.network.logs) user

  -- whether the answer that the session awaits is there
  abbrev pub is_answered : Service A → Client A → Standing A → Bool
  is_answered w c (Waits state id) = is_some (answer_at (log_of c.node w.network.logs) id)
  is_answered w c standing = false

  -- the first client of those that connected whose answer is there takes it
  abbrev pub next_answer : Service A → Option (Event A)
  next_answer w = option_map (λ e. event.Collect e.0) (find (λ e. is_answered w e.1 e.1.standing) w.clients)

  -- whether the message has arrived fewer times than this, and its addressee is up
  abbrev pub may_arrive : Service A → ℕ → Sent A → Bool
  may_arrive w copies sent = nat_lt sent.arrived copies && is_up (log_of sent.envelope.to w.network.logs)

  -- an answer that is there, or else the first message from a place on that never arrived
  abbrev pub next_oldest : Service A → ℕ → Option (Event A)
  next_oldest w from = option_or (next_answer w) (option_map (λ k. event.Arrive (from + k)) (position (may_arrive w 1) (drop from w.network.sent)))

  -- an answer that is there, or else the last message from a place on that arrived fewer times than this
  abbrev pub next_newest : Service A → ℕ → ℕ → Option (Event A)
  next_newest w from copies = option_or (next_answer w) (option_map (λ k. event.Arrive (from + k)) (last_position (may_arrive w copies) (drop from w.network.sent)))

  abbrev pub one_more : Settled A → Settled A
  one_more settled = record { events = settled.events + 1; world = settled.world }

  abbrev pub settled_by : (World A → Settled A) → World A → Option (Event A) → Settled A
  settled_by rest w None = record { events = 0; world = w }
  settled_by rest w (Some event) = one_more (rest (stepped w event))

  -- after what comes next, and next again, at most this often
  abbrev pub settled : ℕ → World A → Settled A
  settled zero w = record { events = 0; world = w }
  settled (suc limit) w = settled_by (settled limit) w (next_oldest w.service 0)
