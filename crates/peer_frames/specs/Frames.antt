-- The frame of an envelope. Numbers are unsigned, the most significant byte first.
--
-- A frame is the length of its content in four bytes, and the content: version, kind, sender, addressee, and the fields of
-- the message. Each envelope has one frame in each version; the versions differ only in the key of a delivery.
use Rattle.std.specs.Prelude.{ℕ, List, [], ◌∷◌, ◌++◌, length, Option, Some, None}
use Rattle.std.specs.List.{flat_map}
use Rattle.std.specs.Int.{w32, w64, to_be_bytes}
use Rattle.ballot.specs.Ballots.{BallotNumber}
use Rattle.ballot.specs.declared.message.Message.{Message}
use Rattle.ballot.specs.declared.message.Message.TheVariants.{Propose, P1a, P1b, P2a, P2b, Decision, Ask}
use Rattle.ballot.specs.declared.message.Promise.{Promise}
use Rattle.ballot.specs.declared.message.Vote.{Vote}
use Rattle.ballot.specs.declared.message.Envelope.{Envelope}
use Rattle.ballot.specs.declared.pvalue.PValue.{PValue}
use Rattle.maildrop.specs.Ticket.{Ticket}
use Rattle.maildrop.specs.declared.command.Command.{Command}
use Rattle.maildrop.specs.declared.op.Op.{Op}
use Rattle.maildrop.specs.declared.op.Op.TheVariants.{Mail, Take, Commit, Free, Break}
use Rattle.peer_frames.specs.declared.version.Version.{Version}
use Rattle.peer_frames.specs.declared.version.Version.TheVariants.{First, Second}
use Rattle.peer_frames.specs.declared.kind.Kind.{Kind}
use Rattle.peer_frames.specs.declared.kind.Kind.TheVariants as kind
use Rattle.peer_frames.specs.Numbers.{version_number, kind_number}

-- a number in four or in eight bytes
unfoldable pub u32_bytes : ℕ → List ℕ
u32_bytes n = to_be_bytes w32 n

unfoldable pub u64_bytes : ℕ → List ℕ
u64_bytes n = to_be_bytes w64 n

-- bytes after their number, which has one byte or four
abbrev pub short_string : List ℕ → List ℕ
short_string bytes = length bytes ∷ bytes

abbrev pub long_string : List ℕ → List ℕ
long_string bytes = u32_bytes (length bytes) ++ bytes

-- items after their number
abbrev pub counted : {X : Type 0} → (X → List ℕ) → List X → List ℕ
counted item items = u32_bytes (length items) ++ flat_map item items

abbrev pub ballot_bytes : BallotNumber → List ℕ
ballot_bytes b = u64_bytes b.round ++ b.leader ∷ []

abbrev pub ticket_bytes : Ticket → List ℕ
ticket_bytes t = t.node ∷ u64_bytes t.seq

-- The first version has no keys. In the second a delivery without a key has one of no bytes.
abbrev pub key_bytes : Version → Option (List ℕ) → List ℕ
key_bytes First key = []
key_bytes Second None = short_string []
key_bytes Second (Some key) = short_string key

abbrev pub vote_bytes : Vote → List ℕ
vote_bytes v = ballot_bytes v.asked ++ u64_bytes v.slot ++ ballot_bytes v.ballot

module _ {A : Type 0} where
  abbrev pub op_bytes : Version → Op A → List ℕ
  op_bytes v (Mail text key) = 1 ∷ key_bytes v key ++ counted long_string text
  op_bytes v Take = 2 ∷ []
  op_bytes v (Commit lock uids) = 3 ∷ ticket_bytes lock ++ counted u64_bytes uids
  op_bytes v (Free lock) = 4 ∷ ticket_bytes lock
  op_bytes v Break = 5 ∷ []

  abbrev pub command_bytes : Version → Command A → List ℕ
  command_bytes v c = short_string c.user ++ ticket_bytes c.ticket ++ op_bytes v c.op

  abbrev pub pvalue_bytes : Version → PValue (Command A) → List ℕ
  pvalue_bytes v p = ballot_bytes p.ballot ++ u64_bytes p.slot ++ command_bytes v p.command

  abbrev pub promise_bytes : Version → Promise (Command A) A → List ℕ
  promise_bytes v p = ballot_bytes p.asked ++ ballot_bytes p.ballot ++ counted (pvalue_bytes v) p.accepted

  abbrev pub kind_of_message : Message (Command A) A → Kind
  kind_of_message (Propose slot command) = kind.Propose
  kind_of_message (P1a ballot) = kind.P1a
  kind_of_message (P1b promise) = kind.P1b
  kind_of_message (P2a pvalue) = kind.P2a
  kind_of_message (P2b vote) = kind.P2b
  kind_of_message (Decision slot command) = kind.Decision
  kind_of_message (Ask slot) = kind.Ask

  abbrev pub message_bytes : Version → Message (Command A) A → List ℕ
  message_bytes v (Propose slot command) = u64_bytes slot ++ command_bytes v command
  message_bytes v (P1a ballot) = ballot_bytes ballot
  message_bytes v (P1b promise) = promise_bytes v promise
  message_bytes v (P2a pvalue) = pvalue_bytes v pvalue
  message_bytes v (P2b vote) = vote_bytes vote
  message_bytes v (Decision slot command) = u64_bytes slot ++ command_bytes v command
  message_bytes v (Ask slot) = u64_bytes slot

  abbrev pub content : Version → Envelope (Command A) A → List ℕ
  content v e = version_number v ∷ kind_number (kind_of_message e.message) ∷ e.from ∷ e.to ∷ message_bytes v e.message

  abbrev pub frame : Version → Envelope (Command A) A → List ℕ
  frame v e = long_string (content v e)

  -- the frame that is written
  abbrev pub written_frame : Envelope (Command A) A → List ℕ
  written_frame e = frame Second e
