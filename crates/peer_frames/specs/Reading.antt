-- Reading a frame from left to right, up to the first fault.
use Rattle.std.specs.Prelude.{◌≡◌, ℕ, zero, suc, ◌+◌, List, [], ◌∷◌, length, take, drop, Bool, true, false, not, Option, Some, None, Result, Ok, Err, nat_lt, ◌==◌, if◌then◌else◌}
use Rattle.std.specs.List.{list_any}
use Rattle.std.specs.Int.{Width, w32, w64, byte_len, from_be_bytes}
use Rattle.memchr.specs.Find.{is_byte}
use Rattle.ballot.specs.Ballots.{BallotNumber}
use Rattle.ballot.specs.declared.message.Message.{Message}
use Rattle.ballot.specs.declared.message.Message.TheVariants.{Propose, P1a, P1b, P2a, P2b, Decision, Ask}
use Rattle.ballot.specs.declared.message.Envelope.{Envelope}
use Rattle.ballot.specs.declared.pvalue.PValue.{PValue}
use Rattle.maildrop.specs.Ticket.{Ticket}
use Rattle.maildrop.specs.Name.{is_name}
use Rattle.maildrop.specs.Key.{is_key}
use Rattle.maildrop.specs.declared.command.Command.{Command}
use Rattle.maildrop.specs.declared.op.Op.{Op}
use Rattle.maildrop.specs.declared.op.Op.TheVariants.{Mail, Take, Commit, Free, Break}
use Rattle.peer_frames.specs.declared.fault.FrameFault.{FrameFault}
use Rattle.peer_frames.specs.declared.fault.FrameFault.TheVariants as fault
use Rattle.peer_frames.specs.declared.malformed.Malformed.{Malformed}
use Rattle.peer_frames.specs.declared.malformed.Malformed.TheVariants as malformed
use Rattle.peer_frames.specs.declared.version.Version.{Version}
use Rattle.peer_frames.specs.declared.version.Version.TheVariants.{First, Second}
use Rattle.peer_frames.specs.declared.kind.Kind.{Kind}
use Rattle.peer_frames.specs.declared.kind.Kind.TheVariants as kind
use Rattle.peer_frames.specs.declared.header.Header.{Header}
use Rattle.peer_frames.specs.Numbers.{version_of, kind_of, has_commands, is_length, is_node, is_slot, is_seq, is_name_length, is_key_length}

-- a value and the bytes after it, or the first fault
abbrev pub Reading : Type 0 → Type 0
Reading X = Result (X × List ℕ) Malformed

infixl 10 ◌>>=◌
abbrev pub ◌>>=◌ : {X Y : Type 0} → Result X Malformed → (X → Result Y Malformed) → Result Y Malformed
(Ok x) >>= f = f x
(Err e) >>= f = Err e

-- what was read, if it keeps the rule
abbrev pub kept : {X : Type 0} → (X → Bool) → X × List ℕ → Reading X
kept rule x = if rule x.0 then Ok x else Err malformed.Field

abbrev pub keeping : {X : Type 0} → (X → Bool) → Reading X → Reading X
keeping rule read = read >>= kept rule

-- what a number stands for, or the fault that it stands for nothing
abbrev pub known : {X : Type 0} → Malformed → Option X → Result X Malformed
known f (Some x) = Ok x
known f None = Err f

abbrev pub byte_at : List ℕ → Reading ℕ
byte_at [] = Err malformed.Length
byte_at (b ∷ rest) = Ok (b, rest)

abbrev pub bytes_at : ℕ → List ℕ → Reading (List ℕ)
bytes_at n bytes = if nat_lt (length bytes) n then Err malformed.Length else Ok (take n bytes, drop n bytes)

-- a number, the most significant byte first
abbrev pub number_at : Width → List ℕ → Reading ℕ
number_at w bytes =
    if nat_lt (length bytes) (byte_len w) then Err malformed.Length
    else Ok (from_be_bytes w (take (byte_len w) bytes), drop (byte_len w) bytes)

unfoldable pub node_at : List ℕ → Reading ℕ
node_at bytes = keeping is_node (byte_at bytes)

unfoldable pub slot_at : List ℕ → Reading ℕ
slot_at bytes = keeping is_slot (number_at w64 bytes)

unfoldable pub ballot_at : List ℕ → Reading BallotNumber
ballot_at bytes = do
  round ← number_at w64 bytes
  leader ← node_at round.1
  Ok (record { round = round.0; leader = leader.0 }, leader.1)

unfoldable pub ticket_at : List ℕ → Reading Ticket
ticket_at bytes = do
  node ← node_at bytes
  seq ← keeping is_seq (number_at w64 node.1)
  Ok (record { node = node.0; seq = seq.0 }, seq.1)

unfoldable pub name_at : List ℕ → Reading (List ℕ)
name_at bytes = do
  len ← keeping is_name_length (byte_at bytes)
  keeping is_name (bytes_at len.0 len.1)

unfoldable pub some_key_at : ℕ → List ℕ → Reading (Option (List ℕ))
some_key_at len bytes = do
  key ← keeping is_key (bytes_at len bytes)
  Ok (Some key.0, key.1)

-- a key of no bytes is none
unfoldable pub key_at : Version → List ℕ → Reading (Option (List ℕ))
key_at First bytes = Ok (None, bytes)
key_at Second bytes = do
  len ← keeping is_key_length (byte_at bytes)
  if len.0 == 0 then Ok (None, len.1) else some_key_at len.0 len.1

-- so many items, one after another
unfoldable pub many_at : {X : Type 0} → (List ℕ → Reading X) → ℕ → List ℕ → Reading (List X)
many_at item_at zero bytes = Ok ([], bytes)
many_at item_at (suc n) bytes = do
  first ← item_at bytes
  others ← many_at item_at n first.1
  Ok (first.0 ∷ others.0, others.1)

-- items after their number
abbrev pub counted_at : {X : Type 0} → (List ℕ → Reading X) → List ℕ → Reading (List X)
counted_at item_at bytes = do
  n ← number_at w32 bytes
  many_at item_at n.0 n.1

-- no line feed is in it
abbrev pub is_line : List ℕ → Bool
is_line line = not (list_any (is_byte 10) line)

unfoldable pub line_at : List ℕ → Reading (List ℕ)
line_at bytes = do
  n ← number_at w32 bytes
  keeping is_line (bytes_at n.0 n.1)

unfoldable pub text_at : List ℕ → Reading (List (List ℕ))
text_at bytes = counted_at line_at bytes

-- above the last unique id, if there is one
abbrev pub is_above : Option ℕ → ℕ → Bool
is_above None uid = true
is_above (Some last) uid = nat_lt last uid

unfoldable pub uid_at : Option ℕ → List ℕ → Reading ℕ
uid_at last bytes = keeping (is_above last) (number_at w64 bytes)

-- so many unique ids, each above the one before it
unfoldable pub uids_from : Option ℕ → ℕ → List ℕ → Reading (List ℕ)
uids_from last zero bytes = Ok ([], bytes)
uids_from last (suc n) bytes = do
  first ← uid_at last bytes
  others ← uids_from (Some first.0) n first.1
  Ok (first.0 ∷ others.0, others.1)

unfoldable pub uids_at : List ℕ → Reading (List ℕ)
uids_at bytes = do
  n ← number_at w32 bytes
  uids_from None n.0 n.1

-- what comes before the fields of a message
unfoldable pub header_at : List ℕ → Reading Header
header_at bytes = do
  v ← byte_at bytes
  version ← known malformed.Version (version_of v.0)
  k ← byte_at v.1
  kind ← known malformed.Kind (kind_of k.0)
  from ← node_at k.1
  to ← node_at from.1
  Ok (record { version = version; kind = kind; from = from.0; to = to.0 }, to.1)

-- The content of the frame at the front, by its length: nothing while there are fewer than four bytes, or while the
-- frame isn't whole.
unfoldable pub content_at : List ℕ → Result (Option (List ℕ)) Malformed
content_at bytes =
    if nat_lt (length bytes) 4 then Ok None
    else do
      n ← number_at w32 bytes
      if not (is_length n.0) then Err malformed.Length
          else if nat_lt (length n.1) n.0 then Ok None
          else Ok (Some (take n.0 n.1))

module _ {A : Type 0} where
  unfoldable pub mail_at : Version → List ℕ → Reading (Op A)
  mail_at v bytes = do
    key ← key_at v bytes
    text ← text_at key.1
    Ok (Mail text.0 key.0, text.1)

  unfoldable pub commit_at : List ℕ → Reading (Op A)
  commit_at bytes = do
    lock ← ticket_at bytes
    uids ← uids_at lock.1
    Ok (Commit lock.0 uids.0, uids.1)

  unfoldable pub free_at : List ℕ → Reading (Op A)
  free_at bytes = do
    lock ← ticket_at bytes
    Ok (Free lock.0, lock.1)

  unfoldable pub op_at : Version → List ℕ → Reading (Op A)
  op_at v bytes = do
    n ← byte_at bytes
    if n.0 == 1 then mail_at v n.1
        else if n.0 == 2 then Ok (Take, n.1)
        else if n.0 == 3 then commit_at n.1
        else if n.0 == 4 then free_at n.1
        else if n.0 == 5 then Ok (Break, n.1)
        else Err malformed.Field

  unfoldable pub command_at : Version → List ℕ → Reading (Command A)
  command_at v bytes = do
    user ← name_at bytes
    ticket ← ticket_at user.1
    op ← op_at v ticket.1
    Ok (record { user = user.0; ticket = ticket.0; op = op.0 }, op.1)

  unfoldable pub pvalue_at : Version → List ℕ → Reading (PValue (Command A))
  pvalue_at v bytes = do
    ballot ← ballot_at bytes
    slot ← slot_at ballot.1
    command ← command_at v slot.1
    Ok (record { ballot = ballot.0; slot = slot.0; command = command.0 }, command.1)

  unfoldable pub pvalues_at : Version → List ℕ → Reading (List (PValue (Command A)))
  pvalues_at v bytes = counted_at (pvalue_at v) bytes

  unfoldable pub promise_at : Version → List ℕ → Reading (Message (Command A) A)
  promise_at v bytes = do
    asked ← ballot_at bytes
    ballot ← ballot_at asked.1
    accepted ← pvalues_at v ballot.1
    Ok (P1b (record { asked = asked.0; ballot = ballot.0; accepted = accepted.0 }), accepted.1)

  unfoldable pub vote_at : List ℕ → Reading (Message (Command A) A)
  vote_at bytes = do
    asked ← ballot_at bytes
    slot ← slot_at asked.1
    ballot ← ballot_at slot.1
    Ok (P2b (record { asked = asked.0; slot = slot.0; ballot = ballot.0 }), ballot.1)

  unfoldable pub message_at : Version → Kind → List ℕ → Reading (Message (Command A) A)
  message_at v kind.Propose bytes = do
    slot ← slot_at bytes
    command ← command_at v slot.1
    Ok (Propose slot.0 command.0, command.1)
  message_at v kind.P1a bytes = do
    ballot ← ballot_at bytes
    Ok (P1a ballot.0, ballot.1)
  message_at v kind.P1b bytes = promise_at v bytes
  message_at v kind.P2a bytes = do
    pvalue ← pvalue_at v bytes
    Ok (P2a pvalue.0, pvalue.1)
  message_at v kind.P2b bytes = vote_at bytes
  message_at v kind.Decision bytes = do
    slot ← slot_at bytes
    command ← command_at v slot.1
    Ok (Decision slot.0 command.0, command.1)
  message_at v kind.Ask bytes = do
    slot ← slot_at bytes
    Ok (Ask slot.0, slot.1)

  -- the envelope whose header and fields these bytes are, all of them
  unfoldable pub envelope_in : List ℕ → Result (Envelope (Command A) A) Malformed
  envelope_in bytes = do
    header ← header_at bytes
    message ← message_at header.0.version header.0.kind header.1
    if length message.1 == 0 then Ok (record { from = header.0.from; to = header.0.to; message = message.0 }) else Err malformed.Length

  -- the envelope of a content, if there is one, and how many bytes its frame has
  unfoldable pub framed_in : Option (List ℕ) → Result (Option (Envelope (Command A) A × ℕ)) Malformed
  framed_in None = Ok None
  framed_in (Some content) = do
    envelope ← envelope_in content
    Ok (Some (envelope, 4 + length content))

  -- the envelope of the frame at the front, and how many bytes the frame has; nothing while it isn't whole
  unfoldable pub frame_at : List ℕ → Result (Option (Envelope (Command A) A × ℕ)) Malformed
  frame_at bytes = content_at bytes >>= framed_in

-- What a call that may run out of memory returns: what reading gives, unless memory ran out.
abbrev pub Fails : {Y : Type 0} → FrameFault → Result Y Malformed → Type 0
Fails fault.Version read = read ≡ Err malformed.Version
Fails fault.Kind read = read ≡ Err malformed.Kind
Fails fault.Field read = read ≡ Err malformed.Field
Fails fault.Length read = read ≡ Err malformed.Length
Fails fault.Memory read = Unit {0}

abbrev pub Gives : {X : Type 0} → Result X FrameFault → Result X Malformed → Type 0
Gives (Ok x) read = read ≡ Ok x
Gives (Err f) read = Fails f read

-- the same of a call that reads from the front and leaves the rest
abbrev pub GivesFrontAs : {X Y : Type 0} → (X → Y) → Result X FrameFault → List ℕ → Reading Y → Type 0
GivesFrontAs view (Ok x) rest read = read ≡ Ok (view x, rest)
GivesFrontAs view (Err f) rest read = Fails f read

abbrev pub GivesFront : {X : Type 0} → Result X FrameFault → List ℕ → Reading X → Type 0
GivesFront result rest read = GivesFrontAs (λ x. x) result rest read

-- and of a call that takes no memory
abbrev pub ReadsAs : {X Y : Type 0} → (X → Y) → Result X Malformed → List ℕ → Reading Y → Type 0
ReadsAs view (Ok x) rest read = read ≡ Ok (view x, rest)
ReadsAs view (Err f) rest read = read ≡ Err f

abbrev pub Reads : {X : Type 0} → Result X Malformed → List ℕ → Reading X → Type 0
Reads result rest read = ReadsAs (λ x. x) result rest read

-- and of one that looks for something
abbrev pub FindsAs : {X Y : Type 0} → (X → Y) → Result (Option X) Malformed → Result (Option Y) Malformed → Type 0
FindsAs view (Ok (Some x)) read = read ≡ Ok (Some (view x))
FindsAs view (Ok None) read = read ≡ Ok None
FindsAs view (Err f) read = read ≡ Err f

-- the fault that a caller sees
abbrev pub fault_of : Malformed → FrameFault
fault_of malformed.Version = fault.Version
fault_of malformed.Kind = fault.Kind
fault_of malformed.Field = fault.Field
fault_of malformed.Length = fault.Length

-- Whether the frame at the front is whole and has a good header of a kind whose messages may have commands. Of no other
-- bytes is memory taken.
abbrev pub header_has_commands : Reading Header → Bool
header_has_commands (Ok header) = has_commands header.0.kind
header_has_commands (Err f) = false

abbrev pub content_has_commands : Result (Option (List ℕ)) Malformed → Bool
content_has_commands (Ok (Some content)) = header_has_commands (header_at content)
content_has_commands (Ok None) = false
content_has_commands (Err f) = false

abbrev pub has_commands_at : List ℕ → Bool
has_commands_at bytes = content_has_commands (content_at bytes)
