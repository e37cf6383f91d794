-- What fits into a frame.
use Rattle.std.specs.Prelude.{◌≡◌, ℕ, ◌<◌, ◌≤◌, ◌^◌, List, [], ◌∷◌, length, take, Option, Some, None, true}
use Rattle.std.specs.List.{AllByRecursion}
use Rattle.ballot.specs.Ballots.{BallotNumber}
use Rattle.ballot.specs.declared.message.Message.{Message}
use Rattle.ballot.specs.declared.message.Message.TheVariants.{Propose, P1a, P1b, P2a, P2b, Decision, Ask}
use Rattle.ballot.specs.declared.message.Promise.{Promise}
use Rattle.ballot.specs.declared.message.Vote.{Vote}
use Rattle.ballot.specs.declared.message.Envelope.{Envelope}
use Rattle.ballot.specs.declared.pvalue.PValue.{PValue}
use Rattle.maildrop.specs.Ticket.{Ticket}
use Rattle.maildrop.specs.Name.{is_name}
use Rattle.maildrop.specs.Key.{is_key}
use Rattle.maildrop.specs.declared.command.Command.{Command}
use Rattle.maildrop.specs.declared.op.Op.{Op}
use Rattle.maildrop.specs.declared.op.Op.TheVariants.{Mail, Take, Commit, Free, Break}
use Rattle.peer_frames.specs.declared.version.Version.{Version}
use Rattle.peer_frames.specs.declared.version.Version.TheVariants.{First, Second}
use Rattle.peer_frames.specs.Numbers.{is_node, is_slot, longest}
use Rattle.peer_frames.specs.Frames.{content, frame}
use Rattle.peer_frames.specs.Reading.{is_line, is_above}

-- each number is above the one before it
abbrev pub Rises : Option ℕ → List ℕ → Type 0
Rises last [] = Unit {0}
Rises last (x ∷ xs) = (is_above last x ≡ true) × Rises (Some x) xs

-- each item fits
abbrev pub FitAll : {X : Type 0} → (X → Type 0) → List X → Type 0
FitAll Fits xs = AllByRecursion Fits xs

pub record FitsBallot (b : BallotNumber) : Type 0 where
  pub round : b.round < 2 ^ 64
  pub leader : is_node b.leader ≡ true

pub record FitsTicket (t : Ticket) : Type 0 where
  pub node : is_node t.node ≡ true
  pub least : 1 ≤ t.seq
  pub seq : t.seq < 2 ^ 64

abbrev pub FitsKey : Version → Option (List ℕ) → Type 0
FitsKey First k = k ≡ None
FitsKey Second None = Unit {0}
FitsKey Second (Some k) = is_key k ≡ true

pub record FitsLine (line : List ℕ) : Type 0 where
  pub length : length line < 2 ^ 32
  pub rule : is_line line ≡ true

pub record FitsText (text : List (List ℕ)) : Type 0 where
  pub count : length text < 2 ^ 32
  pub lines : FitAll FitsLine text

pub record FitsUids (uids : List ℕ) : Type 0 where
  pub count : length uids < 2 ^ 32
  pub small : FitAll (λ uid. uid < 2 ^ 64) uids
  pub rise : Rises None uids

pub record FitsVote (vote : Vote) : Type 0 where
  pub asked : FitsBallot vote.asked
  pub slot : is_slot vote.slot ≡ true
  pub ballot : FitsBallot vote.ballot

module _ {A : Type 0} where
  abbrev pub FitsOp : Version → Op A → Type 0
  FitsOp v (Mail text key) = FitsKey v key × FitsText text
  FitsOp v Take = Unit {0}
  FitsOp v (Commit lock uids) = FitsTicket lock × FitsUids uids
  FitsOp v (Free lock) = FitsTicket lock
  FitsOp v Break = Unit {0}

  pub record FitsCommand (v : Version) (c : Command A) : Type 0 where
    pub user : is_name c.user ≡ true
    pub ticket : FitsTicket c.ticket
    pub op : FitsOp v c.op

  pub record FitsPValue (v : Version) (p : PValue (Command A)) : Type 0 where
    pub ballot : FitsBallot p.ballot
    pub slot : is_slot p.slot ≡ true
    pub command : FitsCommand v p.command

  pub record FitsPromise (v : Version) (promise : Promise (Command A) A) : Type 0 where
    pub asked : FitsBallot promise.asked
    pub ballot : FitsBallot promise.ballot
    pub count : length promise.accepted < 2 ^ 32
    pub accepted : FitAll (FitsPValue v) promise.accepted

  abbrev pub FitsMessage : Version → Message (Command A) A → Type 0
  FitsMessage v (Propose slot c) = (is_slot slot ≡ true) × FitsCommand v c
  FitsMessage v (P1a b) = FitsBallot b
  FitsMessage v (P1b promise) = FitsPromise v promise
  FitsMessage v (P2a p) = FitsPValue v p
  FitsMessage v (P2b vote) = FitsVote vote
  FitsMessage v (Decision slot c) = (is_slot slot ≡ true) × FitsCommand v c
  FitsMessage v (Ask slot) = is_slot slot ≡ true

  pub record FitsEnvelope (v : Version) (e : Envelope (Command A) A) : Type 0 where
    pub from : is_node e.from ≡ true
    pub to : is_node e.to ≡ true
    pub message : FitsMessage v e.message

  -- The first n bytes are the frame of the envelope in one of the versions. In the first version the envelope has no key.
  pub record BeginsWithFrame (bytes : List ℕ) (e : Envelope (Command A) A) (n : ℕ) : Type 0 where
    pub version : Version
    pub written : take n bytes ≡ frame version e
    pub within : n ≤ length bytes
    pub small : length (content version e) ≤ longest
    pub fits : FitsEnvelope version e
