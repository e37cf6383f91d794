-- Reading a payload from left to right, up to the first fault.
use Rattle.std.specs.Prelude.{◌≡◌, ℕ, zero, suc, List, [], ◌∷◌, length, take, drop, Bool, true, false, not, Option, Some, None, Result, Ok, Err, nat_lt, ◌==◌, if◌then◌else◌}
use Rattle.std.specs.List.{list_any}
use Rattle.std.specs.Int.{Width, w32, w64, byte_len, from_be_bytes}
use Rattle.memchr.specs.Find.{is_byte}
use Rattle.maildrop.specs.Name.{is_name}
use Rattle.maildrop.specs.Key.{is_key}
use Rattle.maildrop.specs.declared.change.Change.{Change}
use Rattle.maildrop.specs.declared.change.Change.TheVariants.{Stored, Removed, Keyed, Next}
use Rattle.ledger.specs.declared.entry.Entry.{Entry}
use Rattle.ledger.specs.declared.entry.Record.{Record}
use Rattle.ledger.specs.declared.entry.Record.TheVariants as said
use Rattle.ledger.specs.declared.fault.PayloadFault.{PayloadFault}
use Rattle.ledger.specs.declared.fault.PayloadFault.TheVariants as fault
use Rattle.ledger.specs.declared.malformed.Malformed.{Malformed}
use Rattle.ledger.specs.declared.malformed.Malformed.TheVariants as malformed
use Rattle.ledger.specs.declared.kind.Kind.{Kind}
use Rattle.ledger.specs.declared.kind.Kind.TheVariants as kind
use Rattle.ledger.specs.Payloads.{begin_number, opened_number, kind_of, is_name_length, is_key_length}

-- a value and the bytes after it, or the first fault
abbrev pub Reading : Type 0 → Type 0
Reading X = Result (X × List ℕ) Malformed

infixl 10 ◌>>=◌
abbrev pub ◌>>=◌ : {X Y : Type 0} → Result X Malformed → (X → Result Y Malformed) → Result Y Malformed
(Ok x) >>= f = f x
(Err e) >>= f = Err e

-- what was read, if it keeps the rule
abbrev pub kept : {X : Type 0} → (X → Bool) → X × List ℕ → Reading X
kept rule x = if rule x.0 then Ok x else Err malformed.Field

abbrev pub keeping : {X : Type 0} → (X → Bool) → Reading X → Reading X
keeping rule read = read >>= kept rule

-- what a number stands for, or the fault that it stands for nothing
abbrev pub known : {X : Type 0} → Malformed → Option X → Result X Malformed
known f (Some x) = Ok x
known f None = Err f

abbrev pub byte_at : List ℕ → Reading ℕ
byte_at [] = Err malformed.Length
byte_at (b ∷ rest) = Ok (b, rest)

abbrev pub bytes_at : ℕ → List ℕ → Reading (List ℕ)
bytes_at n bytes = if nat_lt (length bytes) n then Err malformed.Length else Ok (take n bytes, drop n bytes)

-- a number, the most significant byte first
abbrev pub number_at : Width → List ℕ → Reading ℕ
number_at w bytes =
    if nat_lt (length bytes) (byte_len w) then Err malformed.Length
    else Ok (from_be_bytes w (take (byte_len w) bytes), drop (byte_len w) bytes)

unfoldable pub kind_at : List ℕ → Reading Kind
kind_at bytes = do
  n ← byte_at bytes
  kind ← known malformed.Kind (kind_of n.0)
  Ok (kind, n.1)

unfoldable pub name_at : List ℕ → Reading (List ℕ)
name_at bytes = do
  len ← keeping is_name_length (byte_at bytes)
  keeping is_name (bytes_at len.0 len.1)

-- a key that is there
unfoldable pub key_at : List ℕ → Reading (List ℕ)
key_at bytes = do
  len ← keeping is_key_length (byte_at bytes)
  keeping is_key (bytes_at len.0 len.1)

unfoldable pub some_key_at : ℕ → List ℕ → Reading (Option (List ℕ))
some_key_at len bytes = do
  key ← keeping is_key (bytes_at len bytes)
  Ok (Some key.0, key.1)

-- a key of no bytes is none
unfoldable pub optional_key_at : List ℕ → Reading (Option (List ℕ))
optional_key_at bytes = do
  len ← keeping is_key_length (byte_at bytes)
  if len.0 == 0 then Ok (None, len.1) else some_key_at len.0 len.1

-- so many items, one after another
unfoldable pub many_at : {X : Type 0} → (List ℕ → Reading X) → ℕ → List ℕ → Reading (List X)
many_at item_at zero bytes = Ok ([], bytes)
many_at item_at (suc n) bytes = do
  first ← item_at bytes
  others ← many_at item_at n first.1
  Ok (first.0 ∷ others.0, others.1)

-- items after their number
abbrev pub counted_at : {X : Type 0} → (List ℕ → Reading X) → List ℕ → Reading (List X)
counted_at item_at bytes = do
  n ← number_at w32 bytes
  many_at item_at n.0 n.1

-- no line feed is in it
abbrev pub is_line : List ℕ → Bool
is_line line = not (list_any (is_byte 10) line)

unfoldable pub line_at : List ℕ → Reading (List ℕ)
line_at bytes = do
  n ← number_at w32 bytes
  keeping is_line (bytes_at n.0 n.1)

unfoldable pub text_at : List ℕ → Reading (List (List ℕ))
text_at bytes = counted_at line_at bytes

-- above the last unique id, if there is one
abbrev pub is_above : Option ℕ → ℕ → Bool
is_above None uid = true
is_above (Some last) uid = nat_lt last uid

unfoldable pub uid_at : Option ℕ → List ℕ → Reading ℕ
uid_at last bytes = keeping (is_above last) (number_at w64 bytes)

-- so many unique ids, each above the one before it
unfoldable pub uids_from : Option ℕ → ℕ → List ℕ → Reading (List ℕ)
uids_from last zero bytes = Ok ([], bytes)
uids_from last (suc n) bytes = do
  first ← uid_at last bytes
  others ← uids_from (Some first.0) n first.1
  Ok (first.0 ∷ others.0, others.1)

unfoldable pub uids_at : List ℕ → Reading (List ℕ)
uids_at bytes = do
  n ← number_at w32 bytes
  uids_from None n.0 n.1

module _ {A : Type 0} where
  unfoldable pub stored_at : List ℕ → Reading (Change A)
  stored_at bytes = do
    uid ← number_at w64 bytes
    text ← text_at uid.1
    key ← optional_key_at text.1
    Ok (Stored uid.0 text.0 key.0, key.1)

  unfoldable pub keyed_at : List ℕ → Reading (Change A)
  keyed_at bytes = do
    key ← key_at bytes
    uid ← number_at w64 key.1
    Ok (Keyed key.0 uid.0, uid.1)

  -- the fields of a change of this kind
  unfoldable pub change_at : Kind → List ℕ → Reading (Change A)
  change_at kind.Stored bytes = stored_at bytes
  change_at kind.Removed bytes = do
    uids ← uids_at bytes
    Ok (Removed uids.0, uids.1)
  change_at kind.Keyed bytes = keyed_at bytes
  change_at kind.Next bytes = do
    uid ← number_at w64 bytes
    Ok (Next uid.0, uid.1)

  -- what comes first in these bytes
  unfoldable pub entry_at : List ℕ → Reading (Entry A)
  entry_at bytes = do
    kind ← kind_at bytes
    slot ← number_at w64 kind.1
    name ← name_at slot.1
    change ← change_at kind.0 name.1
    Ok (record { slot = slot.0; name = name.0; change = change.0 }, change.1)

  -- what these bytes say, all of them, if they are the payload of a change
  unfoldable pub entry_in : List ℕ → Result (Entry A) Malformed
  entry_in bytes = do
    entry ← entry_at bytes
    if length entry.1 == 0 then Ok entry.0 else Err malformed.Length

  -- the same of the fields of records without a change
  unfoldable pub begin_in : List ℕ → Result (Record A) Malformed
  begin_in fields = do
    number ← number_at w64 fields
    if length number.1 == 0 then Ok (said.Begin number.0) else Err malformed.Length

  unfoldable pub opened_in : List ℕ → Result (Record A) Malformed
  opened_in fields = if length fields == 0 then Ok said.Opened else Err malformed.Length

  -- what a payload says, by its kind
  unfoldable pub record_in : List ℕ → Result (Record A) Malformed
  record_in [] = Err malformed.Length
  record_in (number ∷ fields) =
      if number == begin_number then begin_in fields
      else if number == opened_number then opened_in fields
      else (entry_in (number ∷ fields) >>= λ entry. Ok (said.Entry entry))

-- What a call that may run out of memory returns: what reading gives, unless memory ran out.
abbrev pub Fails : {Y : Type 0} → PayloadFault → Result Y Malformed → Type 0
Fails fault.Kind read = read ≡ Err malformed.Kind
Fails fault.Field read = read ≡ Err malformed.Field
Fails fault.Length read = read ≡ Err malformed.Length
Fails fault.Memory read = Unit {0}

abbrev pub Gives : {X : Type 0} → Result X PayloadFault → Result X Malformed → Type 0
Gives (Ok x) read = read ≡ Ok x
Gives (Err f) read = Fails f read

-- the same of a call that reads from the front and leaves the rest
abbrev pub GivesFrontAs : {X Y : Type 0} → (X → Y) → Result X PayloadFault → List ℕ → Reading Y → Type 0
GivesFrontAs view (Ok x) rest read = read ≡ Ok (view x, rest)
GivesFrontAs view (Err f) rest read = Fails f read

abbrev pub GivesFront : {X : Type 0} → Result X PayloadFault → List ℕ → Reading X → Type 0
GivesFront result rest read = GivesFrontAs (λ x. x) result rest read

-- and of a call that takes no memory
abbrev pub ReadsAs : {X Y : Type 0} → (X → Y) → Result X Malformed → List ℕ → Reading Y → Type 0
ReadsAs view (Ok x) rest read = read ≡ Ok (view x, rest)
ReadsAs view (Err f) rest read = read ≡ Err f

abbrev pub Reads : {X : Type 0} → Result X Malformed → List ℕ → Reading X → Type 0
Reads result rest read = ReadsAs (λ x. x) result rest read

-- the fault that a caller sees
abbrev pub fault_of : Malformed → PayloadFault
fault_of malformed.Kind = fault.Kind
fault_of malformed.Field = fault.Field
fault_of malformed.Length = fault.Length

-- Whether a payload is of a kind whose changes have a text or a list of unique ids. Only for these memory is taken.
abbrev pub has_list : Kind → Bool
has_list kind.Stored = true
has_list kind.Removed = true
has_list kind.Keyed = false
has_list kind.Next = false

abbrev pub kind_has_list : Reading Kind → Bool
kind_has_list (Ok kind) = has_list kind.0
kind_has_list (Err f) = false
