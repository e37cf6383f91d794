-- The connections of a world, and the clients that contracts see.
use Rattle.std.specs.Prelude.{◌≡◌, ℕ, ◌==◌, List, [], ◌∷◌, ◌++◌, Bool, true, map, Option, Some, None, is_some, if◌then◌else◌}
use Rattle.maildrop.specs.CommandId.{CommandId}
use Rattle.maildrop.specs.Ticket.{Ticket}
use Rattle.pop3_wire.specs.declared.line.Line.{Line}
use Rattle.session.specs.Session.{takes_line, awaits_answer}
use Rattle.session.specs.declared.state.State.{State}
use Rattle.node.specs.declared.log.NodeLog.{NodeLog}
use Rattle.runs.specs.Clients.{Client, standing_as, disconnected}
use Rattle.runs.specs.Clients as client
use Rattle.std.specs.Map.{lookup}
use Rattle.world.specs.Hosts.{Hosts, HasAnswerAt, network_of}
use Rattle.runs.specs.Messages.{log_of, is_up}
use Rattle.runs.specs.Services.{Service}
use Rattle.runs.specs.Worlds.{answer_at}
use Rattle.world.specs.declared.connection.Connection.{Connection}
use Rattle.world.specs.declared.connection.Heard.{Heard}
use Rattle.world.specs.declared.connection.Standing.{Standing}
use Rattle.world.specs.declared.connection.Standing.TheVariants.{Hears, Waits, Failed, Disconnected, Over}

-- the lines that a client sent, and the tickets of the operations that they asked for
abbrev pub lines_in : List Heard → List Line
lines_in heard = map (λ h. h.line) heard

abbrev pub in_list : {X : Type 0} → Option X → List X
in_list None = []
in_list (Some x) = x ∷ []

abbrev pub tickets_in : List Heard → List Ticket
tickets_in [] = []
tickets_in (h ∷ hs) = in_list h.ticket ++ tickets_in hs

-- what a session awaits the answer to
abbrev pub awaited_by : Standing → Option CommandId
awaited_by (Waits id) = Some id
awaited_by standing = None

-- a session hears lines, or awaits an answer, as its state does
abbrev pub IsStandingFit : {A : Type 0} → Standing → State A → Type 0
IsStandingFit Hears state = takes_line state ≡ true
IsStandingFit (Waits id) state = awaits_answer state ≡ true
IsStandingFit standing state = Unit {0}

module _ {A : Type 0} where
  abbrev pub standing_in : Standing → State A → client.Standing A
  standing_in Hears state = client.Hears state
  standing_in (Waits id) state = client.Waits state id
  standing_in (Failed lock) state = client.Failed lock
  standing_in Disconnected state = client.Disconnected
  standing_in Over state = client.Over

  abbrev pub client_in : Connection A → Client A
  client_in c = record {
    node = c.node;
    stamp = c.session.stamp;
    lines = lines_in c.heard.items;
    tickets = tickets_in c.heard.items;
    replies = c.replies;
    standing = standing_in c.standing c.session.state;
  }

  -- whether the answer is there that a session awaits
  abbrev pub IsThere : Bool → Option (NodeLog A) → Standing → Type 0
  IsThere there log (Waits id) = there ≡ is_some (answer_at log id)
  IsThere there log standing = Unit {0}

  abbrev pub IsFit : Connection A → Type 0
  IsFit c = IsStandingFit c.standing c.session.state

  -- the client of a node that is down is disconnected, if its session isn't over
  abbrev pub shown : List (NodeLog A) → Client A → Client A
  shown logs c = if is_up (log_of c.node logs) then c else standing_as c (disconnected c.standing)

  abbrev pub clients_in : List (NodeLog A) → List (ℕ × Connection A) → List (ℕ × Client A)
  clients_in logs connections = map (λ e. (e.0, shown logs (client_in e.1))) connections

  abbrev pub service_of : Hosts A → List (ℕ × Connection A) → Service A
  service_of hosts connections = record { network = network_of hosts; clients = clients_in (network_of hosts).logs connections }

  abbrev pub connection_of : ℕ → List (ℕ × Connection A) → Option (Connection A)
  connection_of session connections = lookup (λ s. session == s) connections

  -- each session hears lines, or awaits an answer, as its state does
  abbrev pub AreFit : List (ℕ × Connection A) → Type 0
  AreFit connections = (session : ℕ) (c : Connection A) → connection_of session connections ≡ Some c → IsFit c

  -- no answer was taken that a session awaits
  abbrev pub AreUntaken : Hosts A → List (ℕ × Connection A) → Type 0
  AreUntaken hosts connections = (session : ℕ) (c : Connection A) (id : CommandId) → connection_of session connections ≡ Some c → awaited_by c.standing ≡ Some id → HasAnswerAt c.node id hosts
