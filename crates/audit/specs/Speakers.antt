-- Sessions, as their events are written down one after another.
use Rattle.std.specs.Prelude.{◌≡◌, ◌<◌, ℕ, length, List, [], ◌∷◌, Bool, true, Option, Some, None, ◌==◌, slice_get}
use Rattle.maildrop.specs.Ticket.{Ticket}
use Rattle.node.specs.declared.log.NodeLog.{NodeLog}
use Rattle.session.specs.declared.transcript.Transcript.{Transcript}
use Rattle.audit.specs.Events.{Talk}
use Rattle.audit.specs.Records.{case_of}
use Rattle.audit.specs.Turns.{Turns}
use Rattle.audit.specs.Written.{in_the_end}
use Rattle.audit.specs.Wrong.{seat}
use Rattle.audit.specs.declared.placement.Placement.{Placement}
use Rattle.audit.specs.declared.placement.Source.{Source}
use Rattle.audit.specs.declared.placement.Source.TheVariants.{FromSession}
use Rattle.audit.specs.declared.kind.Kind.{Kind}

pub record Speaker : Type 0 where
  -- the place of the log of its node
  pub seat : ℕ
  -- whether its last command is answered in the end
  pub answered : Bool
  pub talk : Talk

-- the turn of an entry, which is one if it has a ticket
abbrev pub asked_kind : Kind → Option Ticket → List Kind
asked_kind kind None = []
asked_kind kind (Some ticket) = kind ∷ []

-- whether a session of this seat goes on: all do, or those of a node
abbrev pub goes : Option ℕ → ℕ → Bool
goes None seat = true
goes (Some node) seat = seat == node

-- each session is as these say
pub record AreSpeakers (at : ℕ → ℕ) (answered : ℕ → Bool) (talks : ℕ → Talk) (speakers : List Speaker) : Type 0 where
  pub each : (i : ℕ) (s : Speaker) → slice_get speakers i ≡ Some s → s ≡ record { seat = at i; answered = answered i; talk = talks i }

-- a placement at one of so many logs, from one of so many sessions if it is from one
abbrev pub IsKnownSource : ℕ → Source → Type 0
IsKnownSource sessions (FromSession i) = i < sessions
IsKnownSource sessions source = Unit {0}

pub record IsKnown (logs sessions : ℕ) (placement : Placement) : Type 0 where
  pub node : placement.node < logs
  pub source : IsKnownSource sessions placement.source

pub record AreKnown (logs sessions : ℕ) (placements : List Placement) : Type 0 where
  pub each : (k : ℕ) (placement : Placement) → slice_get placements k ≡ Some placement → IsKnown logs sessions placement

module _ {A : Type 0} (logs : List (NodeLog A)) (transcripts : List (Transcript A)) where
  -- each session that began is at a node with a log
  pub record AreSeated : Type 0 where
    pub each : (i : ℕ) (turns : Turns A) → slice_get (case_of logs transcripts).scripts i ≡ Some (Some turns) → seat (case_of logs transcripts) i < length logs

  -- whether the last command of each session is answered in the end
  pub record AreAnswered (answered : List Bool) : Type 0 where
    pub count : length answered ≡ length transcripts
    pub each : (i : ℕ) (t : Bool) → slice_get answered i ≡ Some t → t ≡ in_the_end (case_of logs transcripts) i
