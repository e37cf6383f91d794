-- How a record's payload is written. Numbers are unsigned, the most significant byte first.
--
-- The payload of a change is a byte for its kind, the slot of its command, the name of the user, and the fields of the
-- change. Fields are written as in the frames that nodes send one another.
use Rattle.std.specs.Prelude.{ℕ, ◌^◌, Bool, true, ◌&&◌, nat_le, nat_lt, List, [], ◌∷◌, ◌++◌, length, Option, Some, None, ◌==◌, if◌then◌else◌}
use Rattle.std.specs.List.{flat_map}
use Rattle.std.specs.Int.{w32, w64, to_be_bytes}
use Rattle.maildrop.specs.Name.{longest_name}
use Rattle.maildrop.specs.Key.{longest_key}
use Rattle.maildrop.specs.Text.{octets_of}
use Rattle.maildrop.specs.declared.change.Change.{Change}
use Rattle.maildrop.specs.declared.change.Change.TheVariants.{Stored, Removed, Keyed, Next}
use Rattle.ledger.specs.declared.entry.Entry.{Entry}
use Rattle.ledger.specs.declared.entry.Record.{Record}
use Rattle.ledger.specs.declared.entry.Record.TheVariants as said
use Rattle.ledger.specs.declared.kind.Kind.{Kind}
use Rattle.ledger.specs.declared.kind.Kind.TheVariants as kind

-- the numbers of the kinds of records without a change
abbrev pub begin_number : ℕ
begin_number = 1

abbrev pub opened_number : ℕ
opened_number = 6

-- and those of the kinds of changes
abbrev pub kind_number : Kind → ℕ
kind_number kind.Stored = 2
kind_number kind.Removed = 3
kind_number kind.Keyed = 4
kind_number kind.Next = 5

abbrev pub kind_of : ℕ → Option Kind
kind_of n =
    if n == 2 then Some kind.Stored
    else if n == 3 then Some kind.Removed
    else if n == 4 then Some kind.Keyed
    else if n == 5 then Some kind.Next
    else None

-- the ranges of lengths
abbrev pub is_name_length : ℕ → Bool
is_name_length n = nat_le 1 n && nat_le n longest_name

abbrev pub is_key_length : ℕ → Bool
is_key_length n = nat_le n longest_key

-- a number in four or in eight bytes
unfoldable pub u32_bytes : ℕ → List ℕ
u32_bytes n = to_be_bytes w32 n

unfoldable pub u64_bytes : ℕ → List ℕ
u64_bytes n = to_be_bytes w64 n

-- bytes after their number, which has one byte or four
abbrev pub short_string : List ℕ → List ℕ
short_string bytes = length bytes ∷ bytes

abbrev pub long_string : List ℕ → List ℕ
long_string bytes = u32_bytes (length bytes) ++ bytes

-- items after their number
abbrev pub counted : {X : Type 0} → (X → List ℕ) → List X → List ℕ
counted item items = u32_bytes (length items) ++ flat_map item items

-- no key is written as one of no bytes
abbrev pub key_bytes : Option (List ℕ) → List ℕ
key_bytes None = short_string []
key_bytes (Some key) = short_string key

-- the first payload of a segment, with the segment's number
abbrev pub begin_payload : ℕ → List ℕ
begin_payload number = begin_number ∷ u64_bytes number

-- the payload after a segment's snapshot
abbrev pub opened_payload : List ℕ
opened_payload = opened_number ∷ []

module _ {A : Type 0} where
  abbrev pub kind_of_change : Change A → Kind
  kind_of_change (Stored uid text key) = kind.Stored
  kind_of_change (Removed uids) = kind.Removed
  kind_of_change (Keyed key uid) = kind.Keyed
  kind_of_change (Next uid) = kind.Next

  abbrev pub change_bytes : Change A → List ℕ
  change_bytes (Stored uid text key) = u64_bytes uid ++ counted long_string text ++ key_bytes key
  change_bytes (Removed uids) = counted u64_bytes uids
  change_bytes (Keyed key uid) = short_string key ++ u64_bytes uid
  change_bytes (Next uid) = u64_bytes uid

  abbrev pub payload : ℕ → List ℕ → Change A → List ℕ
  payload slot name change = kind_number (kind_of_change change) ∷ u64_bytes slot ++ short_string name ++ change_bytes change

  -- Whether a change can be written: lengths and numbers of items have four bytes.
  abbrev pub fits : Change A → Bool
  fits (Stored uid text key) = nat_lt (octets_of text) (2 ^ 32)
  fits (Removed uids) = nat_lt (length uids) (2 ^ 32)
  fits (Keyed key uid) = true
  fits (Next uid) = true

  -- what the payload of a change says
  abbrev pub entry : ℕ → List ℕ → Change A → Entry A
  entry slot name change = record { slot = slot; name = name; change = change }

  -- the payload that says this
  abbrev pub record_payload : Record A → List ℕ
  record_payload (said.Begin number) = begin_payload number
  record_payload (said.Entry entry) = payload entry.slot entry.name entry.change
  record_payload said.Opened = opened_payload
