-- What is taken of records, as far as it can come.
use Rattle.std.specs.Prelude.{◌≡◌, ◌⊎◌, ◌||◌, ℕ, Bool, true, false, nat_lt, refl, List, [], ◌∷◌, ◌++◌, Result, Ok, Err, if◌then◌else◌}
use Rattle.std.specs.Str.{bytes_eq}
use Rattle.std.specs.declared.alloc.Global.{Global}
use Rattle.maildrop.specs.Kept.{KeptMaildrop, KeptTable, kept_for}
use Rattle.maildrop.specs.Changes.{can_change, changed_if_fit}
use Rattle.maildrop.specs.declared.change.Change.{Change}
use Rattle.maildrop.specs.declared.change.Change.TheVariants.{Stored, Next}
use Rattle.ledger.specs.Reading.{record_in}
use Rattle.ledger.specs.declared.entry.Entry.{Entry}
use Rattle.ledger.specs.declared.entry.Record.{Record}
use Rattle.ledger.specs.declared.entry.Record.TheVariants as said
use Rattle.records.specs.Spelling.{IsPayload}
use Rattle.batches.specs.Contents.{IsContent, IsContentOf}

-- what is kept under a name after an entry, which is taken if it can come, and after entries, one after another
abbrev pub taken_step : List ℕ → KeptMaildrop Global → Entry Global → KeptMaildrop Global
taken_step name kept entry = if bytes_eq entry.name name then changed_if_fit kept entry.change else kept

abbrev pub taken_by : List ℕ → KeptMaildrop Global → List (Entry Global) → KeptMaildrop Global
taken_by name kept [] = kept
taken_by name kept (entry ∷ entries) = taken_by name (taken_step name kept entry) entries

-- Whether nothing is lost if a change can't come: it stores no message, or it stores one under a unique id that was given before.
abbrev pub is_known : KeptMaildrop Global → Change Global → Bool
is_known kept (Stored uid text key) = nat_lt uid kept.next_uid
is_known kept change = true

next_id_is_known : (kept : KeptMaildrop Global) → is_known kept (Next 7) ≡ true
next_id_is_known kept = refl

-- whether nothing is lost of a change: it can come, or it is known
abbrev pub loses_nothing : KeptMaildrop Global → Change Global → Bool
loses_nothing kept change = can_change kept change || is_known kept change

-- these entries were taken, as far as each can come, and nothing else
abbrev pub HasTaken : List (Entry Global) → KeptTable Global → KeptTable Global → Type 0
HasTaken entries old new = (name : List ℕ) → kept_for name new ≡ taken_by name (kept_for name old) entries

-- the entry that a payload says, if it says one, and the entries of payloads
abbrev pub entries_said : {E : Type 0} → Result (Record Global) E → List (Entry Global)
entries_said (Ok (said.Entry entry)) = entry ∷ []
entries_said (Ok (said.Begin number)) = []
entries_said (Ok said.Opened) = []
entries_said (Err f) = []

abbrev pub said_in : List ℕ → List (Entry Global)
said_in payload = entries_said (record_in payload)

abbrev pub said_in_all : List (List ℕ) → List (Entry Global)
said_in_all [] = []
said_in_all (payload ∷ payloads) = said_in payload ++ said_in_all payloads

-- the payloads of a batch's content, of which there are none if the bytes are no content
abbrev pub HasPayloads : List ℕ → List (List ℕ) → Type 0
HasPayloads content payloads = (IsContentOf payloads content × IsPayload content) ⊎ ((payloads ≡ []) × (IsContent content → ⊥))

-- the entries that a record has: in a file of batches it has the content of one, else a payload
abbrev pub AreEntries : Bool → List ℕ → List (Entry Global) → Type 0
AreEntries true content entries = (payloads : List (List ℕ)) × HasPayloads content payloads × (entries ≡ said_in_all payloads)
AreEntries false payload entries = entries ≡ said_in payload

-- the entries of records, one after another
abbrev pub AreEntriesOf : Bool → List (List ℕ) → List (Entry Global) → Type 0
AreEntriesOf batched [] entries = entries ≡ []
AreEntriesOf batched (payload ∷ payloads) entries =
    (front rest : List (Entry Global)) × AreEntries batched payload front × AreEntriesOf batched payloads rest × (entries ≡ front ++ rest)

-- what a record has was taken
pub record HasTakenRecord (batched : Bool) (payload : List ℕ) (old new : KeptTable Global) : Type 0 where
  pub entries : List (Entry Global)
  pub are : AreEntries batched payload entries
  pub taken : HasTaken entries old new

-- what these records have was taken
pub record AreTaken (batched : Bool) (records : List (List ℕ)) (old new : KeptTable Global) : Type 0 where
  pub entries : List (Entry Global)
  pub are : AreEntriesOf batched records entries
  pub taken : HasTaken entries old new
