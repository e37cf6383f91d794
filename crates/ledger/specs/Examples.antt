-- Worked examples of the definitions. The bytes were written by hand from the format's table.
use Rattle.std.specs.Prelude.{◌≡◌, ℕ, List, [], ◌∷◌, ◌++◌, replicate, refl, codes, true, false, Some, None, Ok, Err}
use Rattle.maildrop.specs.Changes.{changed}
use Rattle.maildrop.specs.Limits.{Limits}
use Rattle.maildrop.specs.Ticket.{Ticket}
use Rattle.maildrop.specs.Kept.{KeptMaildrop, nothing_kept}
use Rattle.maildrop.specs.Maildrop.{Maildrop, opened}
use Rattle.maildrop.specs.Office.{User, maildrop_of, commands_of}
use Rattle.maildrop.specs.declared.command.Command.{Command}
use Rattle.maildrop.specs.declared.op.Op.{Op}
use Rattle.maildrop.specs.declared.op.Op.TheVariants.{Mail, Take, Commit, Free, Break}
use Rattle.maildrop.specs.declared.outcome.Outcome.TheVariants as outcome
use Rattle.maildrop.specs.declared.change.Change.{Change}
use Rattle.maildrop.specs.declared.change.Change.TheVariants.{Stored, Removed, Keyed, Next}
use Rattle.ledger.specs.declared.malformed.Malformed.TheVariants as malformed
use Rattle.ledger.specs.declared.entry.Record.{Record}
use Rattle.ledger.specs.declared.entry.Record.TheVariants as said
use Rattle.ledger.specs.Changes.{Epoch, changes_of, changed_by, written_of, snapshot_of, opening_after, file_of, read_file, outcomes_by_epochs, ids_by_epochs, ids_in_file}
use Rattle.ledger.specs.Coming.{can_come, taken_by}
use Rattle.ledger.specs.Taking.{Decided, entry_in_slot, entry_bytes, entries_of, commands_in, changes_for, written_at}
use Rattle.ledger.specs.Payloads.{u32_bytes, u64_bytes, payload, entry, begin_payload, opened_payload}
use Rattle.ledger.specs.Reading.{kind_at, name_at, key_at, some_key_at, optional_key_at, many_at, line_at, text_at, uid_at, uids_from, uids_at, stored_at, keyed_at, change_at, entry_at, entry_in, begin_in, opened_in, record_in, kind_has_list}

abbrev small : List (List ℕ)
small = codes "hi" ∷ []

abbrev large : List (List ℕ)
large = codes "a long line" ∷ []

abbrev ticket : ℕ → Ticket
ticket seq = record { node = 1; seq = seq }

abbrev by : {A : Type 0} → ℕ → Op A → Command A
by seq op = record { user = codes "alice"; ticket = ticket seq; op = op }

-- a large text has 13 octets
abbrev narrow : Limits
narrow = record { messages = 9; octets = 12; ids = 99 }

-- messages 3 and 7 are there; a key is kept of a message that was removed, and the last one that came was removed too
abbrev kept : {A : Type 0} → KeptMaildrop A
kept = record { messages = record { uid = 3; text = small } ∷ record { uid = 7; text = small } ∷ []; next_uid = 9; keys = (codes "k1", 5) ∷ [] }

-- it is open, and ticket 4 holds its lock
abbrev held : {A : Type 0} → Maildrop A
held = record (opened narrow 10 kept) { holder = Some (ticket 4) }

-- a message that is stored is written with its unique id and its key; one that is refused isn't, nor is one under a key that
-- the maildrop has
mail : {A : Type 0} → changes_of {A = A} held (Mail small (Some (codes "k2"))) ≡ Stored 9 small (Some (codes "k2")) ∷ []
mail = refl

refused : {A : Type 0} → changes_of {A = A} held (Mail large None) ≡ []
refused = refl

repeated_key : {A : Type 0} → changes_of {A = A} held (Mail small (Some (codes "k1"))) ≡ []
repeated_key = refl

-- what the holder removes is written, even if it is nothing; nobody else removes anything
holder_commits : {A : Type 0} → changes_of {A = A} held (Commit (ticket 4) (7 ∷ [])) ≡ Removed (7 ∷ []) ∷ []
holder_commits = refl

other_commits : {A : Type 0} → changes_of {A = A} held (Commit (ticket 5) (7 ∷ [])) ≡ []
other_commits = refl

-- a lock that is taken, given back or broken isn't written
lock : {A : Type 0} → written_of {A = A} held (by 5 Break ∷ by 6 Take ∷ by 7 (Free (ticket 6)) ∷ []) ≡ []
lock = refl

-- a change that is read
after_stored : {A : Type 0} → changed {A = A} kept (Stored 9 large (Some (codes "k2")))
    ≡ record {
      messages = record { uid = 3; text = small } ∷ record { uid = 7; text = small } ∷ record { uid = 9; text = large } ∷ [];
      next_uid = 10;
      keys = (codes "k1", 5) ∷ (codes "k2", 9) ∷ [];
    }
after_stored = refl

after_removed : {A : Type 0} → changed {A = A} kept (Removed (3 ∷ 4 ∷ []))
    ≡ record { messages = record { uid = 7; text = small } ∷ []; next_uid = 9; keys = (codes "k1", 5) ∷ [] }
after_removed = refl

-- the next unique id of a snapshot is above that of its last message, which isn't the last one that came
snapshot : {A : Type 0} → snapshot_of {A = A} kept ≡ Stored 3 small None ∷ Stored 7 small None ∷ Next 9 ∷ Keyed (codes "k1") 5 ∷ []
snapshot = refl

snapshot_read : {A : Type 0} → changed_by {A = A} nothing_kept (Stored 3 small None ∷ Stored 7 small None ∷ Next 9 ∷ Keyed (codes "k1") 5 ∷ []) ≡ kept
snapshot_read = refl

-- of an empty maildrop whose messages were removed
empty_snapshot : {A : Type 0} → snapshot_of {A = A} (record { messages = []; next_uid = 9; keys = (codes "k1", 5) ∷ [] }) ≡ Next 9 ∷ Keyed (codes "k1") 5 ∷ []
empty_snapshot = refl

-- it can be read by changes that can come, and so can what is written after it
snapshot_comes : (A : Type 0) → can_come {A = A} nothing_kept (Stored 3 small None ∷ Stored 7 small None ∷ Next 9 ∷ Keyed (codes "k1") 5 ∷ []) ≡ true
snapshot_comes A = refl

more_comes : (A : Type 0) → can_come {A = A} kept (Removed (7 ∷ []) ∷ Stored 9 small (Some (codes "k2")) ∷ Stored 10 small None ∷ []) ≡ true
more_comes A = refl

-- a reader leaves out a key that it has, and a unique id that is below the next one
key_again : {A : Type 0} → taken_by {A = A} kept (Stored 9 small (Some (codes "k1")) ∷ Keyed (codes "k1") 6 ∷ Removed (7 ∷ []) ∷ [])
    ≡ record { messages = record { uid = 3; text = small } ∷ []; next_uid = 9; keys = (codes "k1", 5) ∷ [] }
key_again = refl

id_again : {A : Type 0} → taken_by {A = A} kept (Stored 8 small None ∷ Next 8 ∷ Next 10 ∷ []) ≡ record kept { next_uid = 10 }
id_again = refl

-- no maildrop that came from nothing has a message with the unique id 0
id_of_nothing : (A : Type 0) → can_come {A = A} nothing_kept (Stored 0 small None ∷ []) ≡ false
id_of_nothing A = refl

-- a snapshot with its keys before the next unique id has more keys than that allows
keys_first : (A : Type 0) → can_come {A = A} nothing_kept (Keyed (codes "k1") 5 ∷ Next 9 ∷ []) ≡ false
keys_first A = refl

-- Two epochs. In the first message 7 is removed and two come, one of them under a key. The second opens with only the
-- last key, so the first key is free again.
abbrev epochs : {A : Type 0} → List (Epoch A)
epochs = record {
  limits = narrow;
  keys = 10;
  commands = by 1 Take ∷ by 2 (Commit (ticket 1) (7 ∷ [])) ∷ by 3 (Mail small (Some (codes "k2"))) ∷ by 4 (Mail large None) ∷ by 5 (Mail small None) ∷ by 6 Take ∷ [];
} ∷ record {
  limits = record narrow { octets = 99 };
  keys = 1;
  commands = by 1 Take ∷ by 2 (Mail small (Some (codes "k2"))) ∷ by 3 (Mail large (Some (codes "k1"))) ∷ [];
} ∷ []

file : {A : Type 0} → file_of {A = A} kept epochs
    ≡ record { limits = narrow; keys = 10; changes = Removed (7 ∷ []) ∷ Stored 9 small (Some (codes "k2")) ∷ Stored 10 small None ∷ [] }
    ∷ record { limits = record narrow { octets = 99 }; keys = 1; changes = Stored 11 large (Some (codes "k1")) ∷ [] } ∷ []
file = refl

abbrev left : {A : Type 0} → KeptMaildrop A
left = record {
  messages = record { uid = 3; text = small } ∷ record { uid = 9; text = small } ∷ record { uid = 10; text = small } ∷ record { uid = 11; text = large } ∷ [];
  next_uid = 12;
  keys = (codes "k2", 9) ∷ (codes "k1", 11) ∷ [];
}

third_opens_with : {A : Type 0} → opening_after {A = A} kept epochs ≡ left
third_opens_with = refl

read : {A : Type 0} → read_file {A = A} kept (file_of kept epochs) ≡ left
read = refl

-- the lock that the first epoch's last command took is free in the second one
outcomes : {A : Type 0} → outcomes_by_epochs {A = A} kept epochs
    ≡ outcome.Taken (record { uid = 3; text = small } ∷ record { uid = 7; text = small } ∷ []) ∷ outcome.Done ∷ outcome.Stored 9 ∷ outcome.TooLarge ∷ outcome.Stored 10
    ∷ outcome.Taken (record { uid = 3; text = small } ∷ record { uid = 9; text = small } ∷ record { uid = 10; text = small } ∷ [])
    ∷ outcome.Taken (record { uid = 3; text = small } ∷ record { uid = 9; text = small } ∷ record { uid = 10; text = small } ∷ []) ∷ outcome.Stored 9 ∷ outcome.Stored 11 ∷ []
outcomes = refl

ids : (A : Type 0) → ids_by_epochs {A = A} kept epochs ≡ 9 ∷ 10 ∷ 11 ∷ []
ids A = refl

ids_in_it : (A : Type 0) → ids_in_file {A = A} (file_of kept epochs) ≡ 9 ∷ 10 ∷ 11 ∷ []
ids_in_it A = refl

-- Commands of three users in slots 4 to 8. Nobody has the maildrop of the second one, so that command changes nothing.
abbrev by_user : {A : Type 0} → List ℕ → ℕ → Op A → Command A
by_user user seq op = record { user = user; ticket = ticket seq; op = op }

abbrev users : {A : Type 0} → List (User A)
users = record { name = codes "al"; maildrop = opened narrow 10 kept } ∷ record { name = codes "bo"; maildrop = opened narrow 10 nothing_kept } ∷ []

abbrev decided : {A : Type 0} → List (Decided A)
decided = record { slot = 4; command = by_user (codes "al") 1 (Mail small None) }
    ∷ record { slot = 5; command = by_user (codes "cy") 1 (Mail small None) }
    ∷ record { slot = 6; command = by_user (codes "al") 2 Take }
    ∷ record { slot = 7; command = by_user (codes "bo") 1 (Mail small (Some (codes "k1"))) }
    ∷ record { slot = 8; command = by_user (codes "al") 3 (Commit (ticket 2) (7 ∷ [])) } ∷ []

added : {A : Type 0} → entries_of {A = A} users decided
    ≡ entry 4 (codes "al") (Stored 9 small None) ∷ entry 7 (codes "bo") (Stored 1 small (Some (codes "k1"))) ∷ entry 8 (codes "al") (Removed (7 ∷ [])) ∷ []
added = refl

added_for_al : {A : Type 0} → changes_for {A = A} (codes "al") (entries_of users decided) ≡ Stored 9 small None ∷ Removed (7 ∷ []) ∷ []
added_for_al = refl

als_commands : {A : Type 0} → written_at {A = A} (maildrop_of (codes "al") users) (commands_of (codes "al") (commands_in decided)) ≡ Stored 9 small None ∷ Removed (7 ∷ []) ∷ []
als_commands = refl

-- payloads

-- a number of one digit in four or in eight bytes
abbrev four : ℕ → List ℕ
four n = 0 ∷ 0 ∷ 0 ∷ n ∷ []

abbrev eight : ℕ → List ℕ
eight n = 0 ∷ 0 ∷ 0 ∷ 0 ∷ four n

-- which allocator it is makes no difference
abbrev A : Type 0
A = Unit {0}

-- what user al's command in slot 9 changed
abbrev als : Change A → Record A
als change = said.Entry (entry 9 (codes "al") change)

-- up to the fields of a change: its kind, the slot and the name
abbrev front : ℕ → List ℕ
front kind = kind ∷ eight 9 ++ (2 ∷ codes "al")

-- message 3 of two lines, under a key or without one
abbrev lines_bytes : List ℕ
lines_bytes = eight 3 ++ four 2 ++ (four 2 ++ codes "hi") ++ four 0

abbrev keyed_mail : Change A
keyed_mail = Stored 3 (codes "hi" ∷ [] ∷ []) (Some (codes "k1"))

abbrev keyless_mail : Change A
keyless_mail = Stored 3 (codes "hi" ∷ [] ∷ []) None

keyed_payload : payload 9 (codes "al") keyed_mail ≡ front 2 ++ lines_bytes ++ 2 ∷ codes "k1"
unfolding u32_bytes u64_bytes
keyed_payload = refl

keyless_payload : payload 9 (codes "al") keyless_mail ≡ front 2 ++ lines_bytes ++ 0 ∷ []
unfolding u32_bytes u64_bytes
keyless_payload = refl

removed_payload : payload {A = A} 9 (codes "al") (Removed (7 ∷ 9 ∷ [])) ≡ front 3 ++ four 2 ++ eight 7 ++ eight 9
unfolding u32_bytes u64_bytes
removed_payload = refl

key_payload : payload {A = A} 9 (codes "al") (Keyed (codes "k1") 5) ≡ front 4 ++ (2 ∷ codes "k1") ++ eight 5
unfolding u64_bytes
key_payload = refl

next_payload : payload {A = A} 9 (codes "al") (Next 8) ≡ front 5 ++ eight 8
unfolding u64_bytes
next_payload = refl

-- of a command that changes nothing there is no payload
no_payload : (A : Type 0) → entry_bytes {A = A} (entry_in_slot users 6 (by_user (codes "al") 2 Take)) ≡ []
no_payload A = refl

one_payload : (A : Type 0) → entry_bytes {A = A} (entry_in_slot users 4 (by_user (codes "al") 1 (Mail small None))) ≡ payload {A = A} 4 (codes "al") (Stored 9 small None)
one_payload A = refl

-- a segment begins, and its snapshot ends
first_payload : begin_payload 7 ≡ 1 ∷ eight 7
unfolding u64_bytes
first_payload = refl

last_payload : opened_payload ≡ 6 ∷ []
last_payload = refl

-- they are read back
keyed_read : record_in (front 2 ++ lines_bytes ++ 2 ∷ codes "k1") ≡ Ok (als keyed_mail)
unfolding record_in entry_in entry_at kind_at name_at change_at stored_at text_at many_at line_at optional_key_at some_key_at
keyed_read = refl

keyless_read : record_in (front 2 ++ lines_bytes ++ 0 ∷ []) ≡ Ok (als keyless_mail)
unfolding record_in entry_in entry_at kind_at name_at change_at stored_at text_at many_at line_at optional_key_at some_key_at
keyless_read = refl

removed_read : record_in (front 3 ++ four 2 ++ eight 7 ++ eight 9) ≡ Ok (als (Removed (7 ∷ 9 ∷ [])))
unfolding record_in entry_in entry_at kind_at name_at change_at uids_at uids_from uid_at
removed_read = refl

key_read : record_in (front 4 ++ (2 ∷ codes "k1") ++ eight 5) ≡ Ok (als (Keyed (codes "k1") 5))
unfolding record_in entry_in entry_at kind_at name_at change_at keyed_at key_at
key_read = refl

next_read : record_in (front 5 ++ eight 8) ≡ Ok (als (Next 8))
unfolding record_in entry_in entry_at kind_at name_at change_at
next_read = refl

first_read : record_in {A = A} (1 ∷ eight 7) ≡ Ok (said.Begin 7)
unfolding record_in begin_in
first_read = refl

last_read : record_in {A = A} (6 ∷ []) ≡ Ok said.Opened
unfolding record_in opened_in
last_read = refl

-- the first fault from left to right is the answer
no_bytes : record_in {A = A} [] ≡ Err malformed.Length
unfolding record_in
no_bytes = refl

unknown_kind : record_in {A = A} (7 ∷ eight 9) ≡ Err malformed.Kind
unfolding record_in entry_in entry_at kind_at
unknown_kind = refl

slot_cut_off : record_in {A = A} (5 ∷ replicate 7 0) ≡ Err malformed.Length
unfolding record_in entry_in entry_at kind_at
slot_cut_off = refl

name_of_no_bytes : record_in {A = A} (5 ∷ eight 9 ++ 0 ∷ []) ≡ Err malformed.Field
unfolding record_in entry_in entry_at kind_at name_at
name_of_no_bytes = refl

line_with_line_feed : record_in {A = A} (front 2 ++ eight 3 ++ four 1 ++ four 2 ++ 104 ∷ 10 ∷ []) ≡ Err malformed.Field
unfolding record_in entry_in entry_at kind_at name_at change_at stored_at text_at many_at line_at
line_with_line_feed = refl

key_too_long : record_in {A = A} (front 2 ++ lines_bytes ++ 65 ∷ replicate 65 97) ≡ Err malformed.Field
unfolding record_in entry_in entry_at kind_at name_at change_at stored_at text_at many_at line_at optional_key_at
key_too_long = refl

-- of three unique ids the second doesn't rise, and the third is cut off
same_ids : record_in {A = A} (front 3 ++ four 3 ++ eight 7 ++ eight 7) ≡ Err malformed.Field
unfolding record_in entry_in entry_at kind_at name_at change_at uids_at uids_from uid_at
same_ids = refl

key_of_no_bytes : record_in {A = A} (front 4 ++ 0 ∷ eight 5) ≡ Err malformed.Field
unfolding record_in entry_in entry_at kind_at name_at change_at keyed_at key_at
key_of_no_bytes = refl

byte_left_over : record_in {A = A} (front 5 ++ eight 8 ++ 0 ∷ []) ≡ Err malformed.Length
unfolding record_in entry_in entry_at kind_at name_at change_at
byte_left_over = refl

byte_after_begin : record_in {A = A} (1 ∷ eight 7 ++ 0 ∷ []) ≡ Err malformed.Length
unfolding record_in begin_in
byte_after_begin = refl

number_cut_off : record_in {A = A} (1 ∷ replicate 7 0) ≡ Err malformed.Length
unfolding record_in begin_in
number_cut_off = refl

byte_after_opened : record_in {A = A} (6 ∷ 0 ∷ []) ≡ Err malformed.Length
unfolding record_in opened_in
byte_after_opened = refl

-- only messages and lists of unique ids take memory
stored_has_list : kind_has_list (kind_at (front 2)) ≡ true
unfolding kind_at
stored_has_list = refl

next_has_none : kind_has_list (kind_at (front 5)) ≡ false
unfolding kind_at
next_has_none = refl

begin_has_none : kind_has_list (kind_at (1 ∷ eight 7)) ≡ false
unfolding kind_at
begin_has_none = refl
