-- The clients of a service: what each sent, and what it was told.
use Rattle.std.specs.Prelude.{◌≡◌, ℕ, ◌==◌, List, [], ◌∷◌, ◌++◌, Option, None, map, if◌then◌else◌}
use Rattle.std.specs.Map.{lookup}
use Rattle.indexmap.specs.IndexMap.{insert_entry}
use Rattle.maildrop.specs.CommandId.{CommandId}
use Rattle.maildrop.specs.Ticket.{Ticket}
use Rattle.apop.specs.Stamp.{Stamp}
use Rattle.pop3_wire.specs.Reply.{greeting}
use Rattle.pop3_wire.specs.declared.line.Line.{Line}
use Rattle.session.specs.Prefix.{IsPrefix}
use Rattle.session.specs.declared.state.State.{State}
use Rattle.session.specs.declared.state.State.TheVariants.{Authorization}

-- how a session stands
pub data Standing (A : Type 0) : Type 0 where
  -- it takes lines
  Hears : (state : State A) → Standing A
  -- a line asked for an operation, and the session awaits the answer to this command
  Waits : (state : State A) → (id : CommandId) → Standing A
  -- it was lost as memory ran out. It takes one hangup, which gives this lock back
  Failed : (lock : Option (List ℕ × Ticket)) → Standing A
  -- it was open when its node crashed, and takes nothing more
  Disconnected : Standing A
  -- it is over
  Over : Standing A

pub record Client (A : Type 0) : Type 0 where
  -- the node to which it is connected, and the timestamp of its greeting
  pub node : ℕ
  pub stamp : Stamp
  -- the lines that it sent, and the tickets of the operations that they asked for, in order
  pub lines : List Line
  pub tickets : List Ticket
  -- the bytes of its replies, the greeting first
  pub replies : List ℕ
  pub standing : Standing A

module _ {A : Type 0} where
  abbrev pub new_client : ℕ → Stamp → Client A
  new_client node stamp =
      let replies : List ℕ = greeting stamp.nonce stamp.host in
      record { node = node; stamp = stamp; lines = []; tickets = []; replies = replies; standing = Hears (Authorization None 0) }

  abbrev pub standing_as : Client A → Standing A → Client A
  standing_as c standing = record c { standing = standing }

  -- it is told something
  abbrev pub told : Client A → List ℕ → Standing A → Client A
  told c bytes standing = record c { replies = c.replies ++ bytes; standing = standing }

  -- it has sent a line
  abbrev pub with_line : Client A → Line → Client A
  with_line c line = record c { lines = c.lines ++ line ∷ [] }

  -- its last line asked for an operation, which got this ticket
  abbrev pub asking : Client A → Ticket → Standing A → Client A
  asking c ticket standing = record c { tickets = c.tickets ++ ticket ∷ []; standing = standing }

  -- the same client later: what it sent, got and was told stays, and more comes after
  pub record IsLater (c later : Client A) : Type 0 where
    pub node : later.node ≡ c.node
    pub stamp : later.stamp ≡ c.stamp
    pub lines : IsPrefix c.lines later.lines
    pub tickets : IsPrefix c.tickets later.tickets
    pub replies : IsPrefix c.replies later.replies

  -- by their sessions' numbers, in the order in which they connected
  abbrev pub client_of : ℕ → List (ℕ × Client A) → Option (Client A)
  client_of session clients = lookup (λ s. session == s) clients

  -- the client of the session is this one: in its place, or the last
  abbrev pub with_client : ℕ → Client A → List (ℕ × Client A) → List (ℕ × Client A)
  with_client session c clients = insert_entry (λ s t. s == t) clients session c

  -- an open session is disconnected
  abbrev pub disconnected : Standing A → Standing A
  disconnected (Hears state) = Disconnected
  disconnected (Waits state id) = Disconnected
  disconnected standing = standing

  abbrev pub without_node : ℕ → Client A → Client A
  without_node node c = if c.node == node then record c { standing = disconnected c.standing } else c

  -- the clients, once this node has crashed
  abbrev pub all_without_node : ℕ → List (ℕ × Client A) → List (ℕ × Client A)
  all_without_node node clients = map (λ (session, c). (session, without_node node c)) clients
