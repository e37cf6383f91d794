-- What the type of a world keeps, and what it shows of it.
use Rattle.std.specs.Prelude.{◌≡◌, ℕ, zero, suc, ◌≤◌, ◌⊎◌, List, [], ◌∷◌, Bool, false, Option, Some, None}
use Rattle.std.specs.Map.{lookup}
use Rattle.maildrop.specs.CommandId.{CommandId, same_id}
use Rattle.node.specs.Replay.{submits_of}
use Rattle.node.specs.declared.input.Input.TheVariants.{Crash}
use Rattle.node.specs.declared.log.NodeLog.{NodeLog}
use Rattle.node.specs.declared.log.Opening.{Opening}
use Rattle.session.specs.declared.state.State.{State}
use Rattle.runs.specs.Clients.{Client, Waits, client_of}
use Rattle.world.specs.Connections.{AreFit, awaited_by, connection_of, service_of}
use Rattle.world.specs.Hosts.{Host, Hosts, HasAnswerAt, crashes_of, crashes_after}
use Rattle.runs.specs.Messages.{log_of}
use Rattle.runs.specs.Services.{Service}
use Rattle.runs.specs.Worlds.{World, IsReached}
use Rattle.world.specs.Values.{WorldValue}
use Rattle.runs.specs.declared.config.Config.{Config}
use Rattle.world.specs.declared.connection.Connection.{Connection}
use Rattle.runs.specs.declared.event.Event.{Event}
use Rattle.runs.specs.declared.event.Event.TheVariants as event

module _ {A : Type 0} where
  abbrev pub world_of : Config A → Hosts A → List (ℕ × Connection A) → List (CommandId × Bool) → World A
  world_of cfg hosts connections operations = record { config = cfg; service = service_of hosts connections; operations = operations }

  abbrev pub value_of : Config A → Hosts A → List (ℕ × Connection A) → List (CommandId × Bool) → WorldValue A
  value_of cfg hosts connections operations = record { world = world_of cfg hosts connections operations; crashed = crashes_of hosts }

  -- node n, that has taken no input; m such nodes from number n on, that begin alike but for their numbers
  abbrev pub new_host : Opening A → ℕ → Host A
  new_host first n = record { log = record { opening = record first { me = n }; inputs = [] }; awaited = []; crashed = false }

  abbrev pub new_hosts : Opening A → ℕ → ℕ → List (Host A)
  new_hosts first n zero = []
  new_hosts first n (suc m) = new_host first n ∷ new_hosts first (suc n) m

  abbrev pub awaited_in : Option (Connection A) → Option CommandId
  awaited_in None = None
  awaited_in (Some c) = awaited_by c.standing

  -- the command whose answer a session would take
  abbrev pub collected_by : List (ℕ × Connection A) → Event A → Option CommandId
  collected_by connections (event.Collect session) = awaited_in (connection_of session connections)
  collected_by connections event = None

  -- of each node, whether an event has crashed it, after one more
  abbrev pub crashes_by : Event A → Hosts A → List Bool
  crashes_by (event.Crash node) hosts = crashes_after Crash node hosts
  crashes_by event hosts = crashes_of hosts

  -- the node of the command's ticket has given that ticket to the command's user
  pub record IsGiven (w : Service A) (id : CommandId) : Type 0 where
    pub log : NodeLog A
    pub at : log_of id.ticket.node w.network.logs ≡ Some log
    pub within : id.ticket.seq ≤ submits_of id.user log.inputs

  -- the session awaits the answer to the command
  pub record IsAwaitedBy (w : Service A) (session : ℕ) (id : CommandId) : Type 0 where
    pub client : Client A
    pub state : State A
    pub its : client_of session w.clients ≡ Some client
    pub waits : client.standing ≡ Waits state id

  -- The answer to the command wasn't taken: the command isn't there yet, or a session awaits the answer, or it is a Mail's
  -- or a Break's whose outcome wasn't taken.
  abbrev pub IsUntaken : Service A → List (CommandId × Bool) → CommandId → Type 0
  IsUntaken w operations id = (IsGiven w id → ⊥) ⊎ (((session : ℕ) × IsAwaitedBy w session id) ⊎ (lookup (same_id id) operations ≡ Some false))

  -- what holds of a world's parts between two steps
  pub record IsKept (cfg : Config A) (hosts : Hosts A) (connections : List (ℕ × Connection A)) (operations : List (CommandId × Bool)) : Type 0 where
    -- some run leads there
    pub reached : IsReached cfg (service_of hosts connections)
    pub fit : AreFit connections
    -- answers that weren't taken are there as soon as their nodes have them
    pub untaken : (id : CommandId) → IsUntaken (service_of hosts connections) operations id → (node : ℕ) → HasAnswerAt node id hosts
    -- the commands of Mails and Breaks have got their tickets
    pub given : (id : CommandId) (taken : Bool) → lookup (same_id id) operations ≡ Some taken → IsGiven (service_of hosts connections) id
    -- and none of them is one that a session awaits
    pub apart : (id : CommandId) (session : ℕ) → IsAwaitedBy (service_of hosts connections) session id → lookup (same_id id) operations ≡ None
