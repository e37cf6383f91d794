-- A whole service: its nodes, the messages between them, and its clients. What happens to it, and what a run of it is.
use Rattle.std.specs.Prelude.{ℕ, List, [], ◌∷◌, ◌++◌, fold, map, Option, Some, is_some, if◌then◌else◌}
use Rattle.std.specs.Option.{option_map_or}
use Rattle.maildrop.specs.CommandId.{CommandId}
use Rattle.maildrop.specs.Ticket.{Ticket}
use Rattle.maildrop.specs.declared.op.Op.{Op}
use Rattle.maildrop.specs.declared.op.Op.TheVariants as op
use Rattle.maildrop.specs.declared.outcome.Outcome.{Outcome}
use Rattle.pop3_wire.specs.declared.line.Line.{Line}
use Rattle.session.specs.Session.{by_line, by_answer, lock_due, lock_got, free_of}
use Rattle.session.specs.declared.state.State.{State}
use Rattle.session.specs.declared.state.Step.{Step}
use Rattle.session.specs.declared.state.Step.TheVariants.{Say, Ask, SayAndClose}
use Rattle.session.specs.declared.state.Turn.{Turn}
use Rattle.node.specs.Nodes.{answered}
use Rattle.node.specs.Replay.{next_ticket}
use Rattle.node.specs.declared.log.Opening.{Opening}
use Rattle.node.specs.declared.log.NodeLog.{NodeLog}
use Rattle.runs.specs.Clients.{Standing, Hears, Waits, Failed, Over, Client, new_client, told, asking, client_of, with_client, all_without_node}
use Rattle.runs.specs.Messages.{Network, NodeEvent, Submits, Arrives, Ticks, Campaigns, Crashes, log_of, is_up, after_node_event, new_network}
use Rattle.runs.specs.declared.config.Config.{Config}
use Rattle.runs.specs.declared.event.Event.{Event}
use Rattle.runs.specs.declared.event.Event.TheVariants as event

pub record Service (A : Type 0) : Type 0 where
  pub network : Network A
  -- by their sessions' numbers, in the order in which they connected
  pub clients : List (ℕ × Client A)

-- what happens in a run
pub data Happening (A : Type 0) : Type 0 where
  -- an event
  Occurs : (event : Event A) → Happening A
  -- there is no memory for what a session would say or keep: it closes without a reply
  Lost : (session : ℕ) → Happening A

module _ {A : Type 0} where
  -- what the nodes begin with; each has its own number
  abbrev pub opening_of : Config A → Opening A
  opening_of c =
      let names : List (List ℕ) = map (λ account. account.name) c.accounts in
      record { me = 1; cluster = c.cluster; window = c.window; names = names; limits = c.limits; kept = c.kept; keys = c.keys }

  abbrev pub new_service : Config A → Service A
  new_service cfg = record { network = new_network (opening_of cfg); clients = [] }

  -- something happens to the nodes alone
  abbrev pub at_nodes : Service A → NodeEvent A → Service A
  at_nodes w e = record w { network = after_node_event w.network e }

  -- the client of the session is now this one
  abbrev pub keeps : Service A → ℕ → Client A → Service A
  keeps w session c = record w { clients = with_client session c w.clients }

  -- its node is given an operation of the client's user besides
  abbrev pub submits_for : Service A → ℕ → Client A → List ℕ → Op A → Service A
  submits_for w session c user op = keeps (at_nodes w (Submits c.node user op)) session c

  -- the command that the node makes of an operation for the user that is submitted next
  abbrev pub next_id : NodeLog A → List ℕ → CommandId
  next_id log user = record { user = user; ticket = next_ticket log.opening.me user log.inputs }

  -- the act, if the node of this log is up
  abbrev pub if_up : Service A → Option (NodeLog A) → (NodeLog A → Service A) → Service A
  if_up w found act = option_map_or (λ log. if is_up (Some log) then act log else w) found w

  -- the act, if there is such a client, and its node is up
  abbrev pub if_served : Service A → Option (Client A) → (Client A → NodeLog A → Service A) → Service A
  if_served w found act = option_map_or (λ c. if_up w (log_of c.node w.network.logs) (act c)) found w

  -- a client of a new session
  abbrev pub connects : Service A → ℕ → Client A → Option (Client A) → Service A
  connects w session c known = if is_some known then w else keeps w session c

  -- an answer is told, and may close the session; one that doesn't fit what was asked ends it
  abbrev pub after_answer : Client A → State A → Step A → Client A
  after_answer c state (Say bytes) = told c bytes (Hears state)
  after_answer c state (SayAndClose bytes) = told c bytes Over
  after_answer c state (Ask user op) = c

  abbrev pub by_turn : Client A → Option (Turn A) → Client A
  by_turn c found = option_map_or (λ turn. after_answer c turn.state turn.step) found (record c { standing = Over })

  -- a line is answered, closes the session, or asks for an operation
  abbrev pub after_line : Service A → ℕ → Client A → NodeLog A → State A → Step A → Service A
  after_line w session c log state (Ask user op) =
      submits_for w session (asking c ((next_id log user).ticket) (Waits state (next_id log user))) user op
  after_line w session c log state step = keeps w session (after_answer c state step)

  abbrev pub hears_line : Config A → Service A → ℕ → Line → Client A → NodeLog A → Standing A → Service A
  hears_line cfg w session line c log (Hears state) =
      let turn = by_line cfg.accounts c.stamp state line in
      after_line w session (record c { lines = c.lines ++ line ∷ [] }) log turn.state turn.step
  hears_line cfg w session line c log standing = w

  -- the answer is there, or not yet
  abbrev pub collects : Service A → ℕ → Client A → NodeLog A → Standing A → Service A
  collects w session c log (Waits state id) =
      option_map_or (λ outcome. keeps w session (by_turn c (by_answer state id.ticket outcome))) (answered log id) w
  collects w session c log standing = w

  -- a session that ends gives back the lock that it holds
  abbrev pub gives_back : Service A → ℕ → Client A → Option (List ℕ × Op A) → Service A
  gives_back w session c free = option_map_or (λ (user, op). submits_for w session c user op) free (keeps w session c)

  abbrev pub hangs_up : Service A → ℕ → Client A → NodeLog A → Standing A → Service A
  hangs_up w session c log (Hears state) = gives_back w session (record c { standing = Over }) (free_of (lock_due state))
  hangs_up w session c log (Failed lock) = gives_back w session (record c { standing = Over }) (free_of lock)
  hangs_up w session c log standing = w

  -- a session that is lost may still hold its lock; a lock that came with the lost answer is its own too
  abbrev pub is_lost : Service A → ℕ → Client A → NodeLog A → Standing A → Service A
  is_lost w session c log (Hears state) = keeps w session (record c { standing = Failed (lock_due state) })
  is_lost w session c log (Waits state id) =
      let failed : Outcome A → Client A = λ outcome. record c { standing = Failed (lock_got state id.ticket outcome) } in
      option_map_or (λ outcome. keeps w session (failed outcome)) (answered log id) w
  is_lost w session c log standing = w

  -- the clients of a node that crashes are disconnected
  abbrev pub crashes : Service A → ℕ → NodeLog A → Service A
  crashes w node log = record { network = after_node_event w.network (Crashes node); clients = all_without_node node w.clients }

  abbrev pub occurs : Config A → Service A → Event A → Service A
  occurs cfg w (event.Connect session node stamp) =
      let connected : Service A = connects w session (new_client node stamp) (client_of session w.clients) in
      if_up w (log_of node w.network.logs) (λ log. connected)
  occurs cfg w (event.Line session line) =
      if_served w (client_of session w.clients) (λ c log. hears_line cfg w session line c log c.standing)
  occurs cfg w (event.Hangup session) = if_served w (client_of session w.clients) (λ c log. hangs_up w session c log c.standing)
  occurs cfg w (event.Collect session) = if_served w (client_of session w.clients) (λ c log. collects w session c log c.standing)
  occurs cfg w (event.Mail node user text key) = at_nodes w (Submits node user (op.Mail text key))
  occurs cfg w (event.Break node user) = at_nodes w (Submits node user op.Break)
  occurs cfg w (event.Arrive which) = at_nodes w (Arrives which)
  occurs cfg w (event.Tick node) = at_nodes w (Ticks node)
  occurs cfg w (event.Campaign node) = at_nodes w (Campaigns node)
  occurs cfg w (event.Crash node) = if_up w (log_of node w.network.logs) (crashes w node)

  -- what can't happen changes nothing
  abbrev pub happens : Config A → Service A → Happening A → Service A
  happens cfg w (Occurs event) = occurs cfg w event
  happens cfg w (Lost session) = if_served w (client_of session w.clients) (λ c log. is_lost w session c log c.standing)

  -- a run: where these happenings lead, one after another
  abbrev pub run_of : Config A → List (Happening A) → Service A
  run_of cfg happenings = fold (happens cfg) (new_service cfg) happenings

  -- parts of the above, for lemmas by cases: a session takes an answer, and one loses it

  abbrev pub takes_answer : Service A → ℕ → Client A → State A → Ticket → Option (Outcome A) → Service A
  takes_answer w session c state ticket found =
      option_map_or (λ outcome. keeps w session (by_turn c (by_answer state ticket outcome))) found w

  abbrev pub loses_answer : Service A → ℕ → Client A → State A → Ticket → Option (Outcome A) → Service A
  loses_answer w session c state ticket found =
      option_map_or (λ outcome. keeps w session (record c { standing = Failed (lock_got state ticket outcome) })) found w
