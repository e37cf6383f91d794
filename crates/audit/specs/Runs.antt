-- Runs of a service, and the logs and transcripts that they leave.
use mathlib.Core.Logic.{◌⊎◌}
use Rattle.std.specs.Prelude.{◌≡◌, ℕ, suc, true, false, length, List, [], ◌∷◌, ◌++◌, Option, Some, None, is_some, slice_get}
use Rattle.std.specs.List.{concat}
use Rattle.apop.specs.Login.{account_named}
use Rattle.apop.specs.Stamp.{Stamp}
use Rattle.maildrop.specs.Ticket.{Ticket}
use Rattle.maildrop.specs.declared.op.Op.{Op}
use Rattle.pop3_wire.specs.declared.line.Line.{Line}
use Rattle.node.specs.declared.input.Input.TheVariants.{Submit}
use Rattle.node.specs.declared.log.NodeLog.{NodeLog}
use Rattle.node.specs.declared.log.Opening.{Opening}
use Rattle.session.specs.Prefix.{IsPrefix}
use Rattle.session.specs.Serve.{IsTranscript, IsWritten, told}
use Rattle.session.specs.declared.transcript.Asked.{Asked}
use Rattle.session.specs.declared.transcript.Transcript.{Transcript}
use Rattle.runs.specs.Clients.{Client, client_of}
use Rattle.runs.specs.Messages.{log_of}
use Rattle.runs.specs.Projection.{IsUserOf, own_commands, alone_bytes}
use Rattle.runs.specs.Refusals.{refusal_of}
use Rattle.runs.specs.Services.{Service, new_service, occurs, opening_of}
use Rattle.runs.specs.Settling.{ran, first_refusal}
use Rattle.runs.specs.Worlds.{new_world}
use Rattle.runs.specs.declared.config.Config.{Config}
use Rattle.runs.specs.declared.event.Event as run
use Rattle.runs.specs.declared.event.Event.TheVariants as happening
use Rattle.audit.specs.Records.{place_of}
use Rattle.audit.specs.Replays.{is_of_lock}
use Rattle.audit.specs.declared.event.Event.{Event}
use Rattle.audit.specs.declared.event.Event.TheVariants as event

-- the ticket of what a line asked
abbrev pub line_ticket : Option ℕ → Option Ticket → List Ticket
line_ticket (Some line) (Some ticket) = ticket ∷ []
line_ticket line ticket = []

module _ {A : Type 0} where
  -- what the node of a number begins with
  abbrev pub opening_at : Config A → ℕ → Opening A
  opening_at cfg number = record (opening_of cfg) { me = number }

  -- These are logs and transcripts of a service: each node began as the service's nodes do, and session i, after the
  -- greeting of its timestamp, was served over the service's accounts.
  pub record AreOfService (cfg : Config A) (stamps : ℕ → Stamp) (logs : List (NodeLog A)) (transcripts : List (Transcript A)) : Type 0 where
    pub openings : (n : ℕ) (log : NodeLog A) → slice_get logs n ≡ Some log → log.opening ≡ opening_at cfg log.opening.me
    pub served : (i : ℕ) (t : Transcript A) → slice_get transcripts i ≡ Some t → IsTranscript cfg.accounts (stamps i) t

  -- the logs of nodes 1, 2 and so on
  abbrev pub AreInOrder : List (NodeLog A) → Type 0
  AreInOrder logs = (n : ℕ) (log : NodeLog A) → slice_get logs n ≡ Some log → log.opening.me ≡ suc n

  abbrev pub line_tickets : List (Asked A) → List Ticket
  line_tickets [] = []
  line_tickets (entry ∷ entries) = line_ticket entry.line entry.ticket ++ line_tickets entries

  -- the last of the entries got no ticket: its node had stopped
  pub record EndsWithoutTicket (entries : List (Asked A)) : Type 0 where
    pub front : List (Asked A)
    pub last : Asked A
    pub in_order : entries ≡ front ++ last ∷ []
    pub no_ticket : last.ticket ≡ None

  -- the transcript's lines, but for a last one whose operation got no ticket
  abbrev pub AreItsLines : Transcript A → List Line → Type 0
  AreItsLines t lines = (t.lines ≡ lines) ⊎ ((last : Line) × (t.lines ≡ lines ++ last ∷ []) × EndsWithoutTicket t.asked)

  -- The client said what the transcript tells, and was told all that it tells, and perhaps more.
  pub record IsClientOf (cfg : Config A) (stamp : Stamp) (t : Transcript A) (c : Client A) : Type 0 where
    pub greeted : c.stamp ≡ stamp
    pub lines : AreItsLines t c.lines
    pub tickets : c.tickets ≡ line_tickets t.asked
    pub replies : IsPrefix (concat (told cfg.accounts stamp t).replies) c.replies

  -- What came of a run is what these logs and transcripts tell: its nodes took the inputs of their logs, those without a
  -- log took none, and session i, if it began, was that of client i + 1.
  pub record IsRunOf (cfg : Config A) (stamps : ℕ → Stamp) (logs : List (NodeLog A)) (transcripts : List (Transcript A)) (w : Service A) : Type 0 where
    pub nodes : (n : ℕ) (log : NodeLog A) → slice_get logs n ≡ Some log → log_of log.opening.me w.network.logs ≡ Some log
    pub others : (number : ℕ) (log : NodeLog A) → place_of number logs ≡ length logs → log_of number w.network.logs ≡ Some log → log.inputs ≡ []
    pub clients : (i : ℕ) (t : Transcript A) → slice_get transcripts i ≡ Some t → (t.greeting ≡ [] → ⊥) → (c : Client A) × (client_of (suc i) w.clients ≡ Some c) × IsClientOf cfg (stamps i) t c

  -- An event of an order and the service's: session i is the service's session i + 1, greeted by its timestamp, and what a
  -- node is given is anything but a message that was sent and an operation of a session.
  abbrev pub IsFor : (ℕ → Stamp) → Event → run.Event A → Type 0
  IsFor stamps (event.Connect i number) (happening.Connect session node stamp) = (session ≡ suc i) × (node ≡ number) × (stamp ≡ stamps i)
  IsFor stamps (event.Line i) (happening.Line session line) = session ≡ suc i
  IsFor stamps (event.Hangup i) (happening.Hangup session) = session ≡ suc i
  IsFor stamps (event.Collect i) (happening.Collect session) = session ≡ suc i
  IsFor stamps (event.Given number) (happening.Mail node user text key) = node ≡ number
  IsFor stamps (event.Given number) (happening.Break node user) = node ≡ number
  IsFor stamps (event.Given number) (happening.Tick node) = node ≡ number
  IsFor stamps (event.Given number) (happening.Campaign node) = node ≡ number
  IsFor stamps (event.Given number) (happening.Crash node) = node ≡ number
  IsFor stamps (event.Arrive k) (happening.Arrive which) = which ≡ k
  IsFor stamps mine other = ⊥

  abbrev pub AreFor : (ℕ → Stamp) → List Event → List (run.Event A) → Type 0
  AreFor stamps [] [] = Unit {0}
  AreFor stamps (e ∷ es) (f ∷ fs) = IsFor stamps e f × AreFor stamps es fs
  AreFor stamps es fs = ⊥

  -- each of these events can happen where it stands
  abbrev pub CanHappen : Config A → Service A → List (run.Event A) → Type 0
  CanHappen cfg w [] = Unit {0}
  CanHappen cfg w (e ∷ es) = (refusal_of w e ≡ None) × CanHappen cfg (occurs cfg w e) es

  -- each message and each break that a node was given is for a user with an account
  pub record AreForUsers (cfg : Config A) (logs : List (NodeLog A)) : Type 0 where
    pub each : (n : ℕ) (log : NodeLog A) (k : ℕ) (user : List ℕ) (op : Op A) → slice_get logs n ≡ Some log → slice_get log.inputs k ≡ Some (Submit user op) → is_of_lock op ≡ false → is_some (account_named cfg.accounts user) ≡ true

  -- of a session with this transcript these bytes were written, and counted
  pub record AreCounted (cfg : Config A) (stamp : Stamp) (t : Transcript A) (written : List ℕ) : Type 0 where
    pub count : t.count ≡ length written
    pub said : IsWritten cfg.accounts stamp t written

  -- They are a prefix of what a server says that has the user's maildrop alone: to the session's greeting and lines,
  -- where what its lines asked has its tickets, taking the user's decided commands in order, each once.
  abbrev pub AreSaidAlone : Config A → Service A → Client A → Transcript A → List ℕ → Type 0
  AreSaidAlone cfg w c t written = (user : List ℕ) → IsUserOf cfg c user → IsPrefix written (alone_bytes cfg c user t.lines (line_tickets t.asked) (own_commands cfg w user))

  -- So is all that sessions with a greeting wrote and counted. Session i is client i + 1.
  abbrev pub AreAllSaidAlone : Config A → (ℕ → Stamp) → List (Transcript A) → Service A → Type 0
  AreAllSaidAlone cfg stamps transcripts w =
      (i : ℕ) (t : Transcript A) (written : List ℕ) → slice_get transcripts i ≡ Some t → (t.greeting ≡ [] → ⊥) → AreCounted cfg (stamps i) t written
      → (c : Client A) × (client_of (suc i) w.clients ≡ Some c) × AreSaidAlone cfg w c t written

  -- The service takes these events one after another. Each can happen where it stands, and a caller is refused none, but
  -- for messages and breaks for users without an account. What comes of it is what these logs and transcripts tell.
  pub record IsTaken (cfg : Config A) (stamps : ℕ → Stamp) (logs : List (NodeLog A)) (transcripts : List (Transcript A)) (events : List Event) : Type 0 where
    pub taken : List (run.Event A)
    pub same : AreFor stamps events taken
    pub possible : CanHappen cfg (new_service cfg) taken
    pub unrefused : AreForUsers cfg logs → first_refusal (new_world cfg) taken ≡ None
    pub leads : IsRunOf cfg stamps logs transcripts (ran (new_world cfg) taken).service
    -- what its sessions wrote and counted is said by a server that has the user's maildrop alone
    pub said : AreAllSaidAlone cfg stamps transcripts (ran (new_world cfg) taken).service
