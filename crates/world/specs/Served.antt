-- What an event at a client's session does to the client and to the nodes.
use Rattle.std.specs.Prelude.{◌≡◌, ℕ, List, Bool, true, false, ◌⊎◌, Option, Some, None}
use Rattle.maildrop.specs.Ticket.{Ticket}
use Rattle.maildrop.specs.declared.op.Op.{Op}
use Rattle.maildrop.specs.declared.outcome.Outcome.{Outcome}
use Rattle.apop.specs.Accounts.{Account}
use Rattle.pop3_wire.specs.declared.line.Line.{Line}
use Rattle.session.specs.Session.{by_line, by_answer, lock_due, lock_got, free_of}
use Rattle.session.specs.declared.state.State.{State}
use Rattle.session.specs.declared.state.Step.{Step}
use Rattle.session.specs.declared.state.Step.TheVariants.{Say, Ask, SayAndClose}
use Rattle.node.specs.declared.input.Input.TheVariants.{Submit, Crash}
use Rattle.node.specs.declared.log.NodeLog.{NodeLog}
use Rattle.runs.specs.Clients.{Standing, Hears, Waits, Failed, Disconnected, Over, Client, standing_as, disconnected, told, with_line, asking}
use Rattle.runs.specs.Messages.{Network, log_of, is_up, given_input}
use Rattle.runs.specs.Services.{next_id, by_turn}
use Rattle.runs.specs.Worlds.{answer_at}

-- by whether a node is up
abbrev pub IsIfUp : Bool → Type 0 → Type 0 → Type 0
IsIfUp true changed same = changed
IsIfUp false changed same = same

module _ {A : Type 0} where
  -- what changes nothing
  abbrev pub IsIdle : Network A → Network A → Client A → Client A → Type 0
  IsIdle n new c later = (new ≡ n) × (later ≡ c)

  -- the client's node crashes
  abbrev pub IsCrash : Network A → Network A → Client A → Client A → Type 0
  IsCrash n new c later = (new ≡ given_input n c.node Crash) × (later ≡ standing_as c (disconnected c.standing))

  -- a session is lost, and this lock is still to be given back
  abbrev pub IsLost : Option (List ℕ × Ticket) → Network A → Network A → Client A → Client A → Type 0
  IsLost lock n new c later = (new ≡ n) × (later ≡ standing_as c (Failed lock))

  -- the step that a line brings, which the client has sent
  abbrev pub IsAsking : Client A → Client A → State A → List ℕ → Option (NodeLog A) → Type 0
  IsAsking c later state user None = ⊥
  IsAsking c later state user (Some log) = later ≡ asking c ((next_id log user).ticket) (Waits state (next_id log user))

  abbrev pub IsStep : State A → Step A → Network A → Network A → Client A → Client A → Type 0
  IsStep state (Say bytes) n new c later = (new ≡ n) × (later ≡ told c bytes (Hears state))
  IsStep state (SayAndClose bytes) n new c later = (new ≡ n) × (later ≡ told c bytes Over)
  IsStep state (Ask user op) n new c later = (new ≡ given_input n c.node (Submit user op)) × IsAsking c later state user (log_of c.node n.logs)

  -- there was no memory for it
  abbrev pub IsStepCut : State A → Step A → Network A → Network A → Client A → Client A → Type 0
  IsStepCut state (Ask user op) n new c later = (new ≡ given_input n c.node Crash) × (later ≡ standing_as c Disconnected)
  IsStepCut state step n new c later = IsLost (lock_due state) n new c later

  -- a line
  abbrev pub IsLineAt : List Account → Line → Standing A → Network A → Network A → Client A → Client A → Type 0
  IsLineAt accounts line (Hears state) n new c later =
      let turn = by_line accounts c.stamp state line in
      IsStep turn.state turn.step n new (with_line c line) later
  IsLineAt accounts line standing n new c later = IsIdle n new c later

  abbrev pub IsLine : List Account → Line → Network A → Network A → Client A → Client A → Type 0
  IsLine accounts line n new c later =
      IsIfUp (is_up (log_of c.node n.logs)) (IsLineAt accounts line c.standing n new c later) (IsIdle n new c later)

  -- there was no memory for it
  abbrev pub IsCutAt : Standing A → Network A → Network A → Client A → Client A → Type 0
  IsCutAt (Hears state) n new c later = IsLost (lock_due state) n new c later ⊎ IsCrash n new c later
  IsCutAt standing n new c later = ⊥

  abbrev pub IsLineCut : Network A → Network A → Client A → Client A → Type 0
  IsLineCut n new c later = (is_up (log_of c.node n.logs) ≡ true) × IsCutAt c.standing n new c later

  -- an answer
  abbrev pub IsAnswer : State A → Ticket → Option (Outcome A) → Client A → Client A → Type 0
  IsAnswer state ticket None c later = later ≡ c
  IsAnswer state ticket (Some outcome) c later = later ≡ by_turn c (by_answer state ticket outcome)

  abbrev pub IsCollectAt : Standing A → Network A → Client A → Client A → Type 0
  IsCollectAt (Waits state id) n c later = IsAnswer state id.ticket (answer_at (log_of c.node n.logs) id) c later
  IsCollectAt standing n c later = later ≡ c

  abbrev pub IsAnswerLost : State A → Ticket → Option (Outcome A) → Client A → Client A → Type 0
  IsAnswerLost state ticket None c later = ⊥
  IsAnswerLost state ticket (Some outcome) c later = later ≡ standing_as c (Failed (lock_got state ticket outcome))

  abbrev pub IsCollectCutAt : Standing A → Network A → Client A → Client A → Type 0
  IsCollectCutAt (Waits state id) n c later = IsAnswerLost state id.ticket (answer_at (log_of c.node n.logs) id) c later
  IsCollectCutAt standing n c later = ⊥

  -- a hangup
  abbrev pub IsFreed : Option (List ℕ × Op A) → Network A → Network A → Client A → Client A → Type 0
  IsFreed None n new c later = (new ≡ n) × (later ≡ standing_as c Over)
  IsFreed (Some free) n new c later = (new ≡ given_input n c.node (Submit free.0 free.1)) × (later ≡ standing_as c Over)

  abbrev pub IsHangupAt : Standing A → Network A → Network A → Client A → Client A → Type 0
  IsHangupAt (Hears state) n new c later = IsFreed (free_of (lock_due state)) n new c later
  IsHangupAt (Failed lock) n new c later = IsFreed (free_of lock) n new c later
  IsHangupAt standing n new c later = IsIdle n new c later

  abbrev pub IsHangup : Network A → Network A → Client A → Client A → Type 0
  IsHangup n new c later =
      IsIfUp (is_up (log_of c.node n.logs)) (IsHangupAt c.standing n new c later) (IsIdle n new c later)

  abbrev pub IsHangupCut : Network A → Network A → Client A → Client A → Type 0
  IsHangupCut n new c later = (is_up (log_of c.node n.logs) ≡ true) × IsCrash n new c later
