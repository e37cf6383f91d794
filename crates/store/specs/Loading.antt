-- What is read of a segment.
use Rattle.std.specs.Prelude.{◌≡◌, ℕ, ◌-◌, ◌≤◌, Bool, true, false, List, [], ◌∷◌, ◌++◌, length, map, Option, None, Some, Ok, if◌then◌else◌, refl}
use Rattle.std.specs.List.{AllByRecursion}
use Rattle.std.specs.Str.{bytes_eq}
use Rattle.std.specs.declared.alloc.Global.{Global}
use Rattle.maildrop.specs.Kept.{KeptMaildrop, KeptTable, kept_for, nothing_kept}
use Rattle.maildrop.specs.Changes.{changed}
use Rattle.ledger.specs.Payloads.{begin_payload, opened_payload}
use Rattle.ledger.specs.Reading.{record_in}
use Rattle.ledger.specs.declared.entry.Entry.{Entry}
use Rattle.ledger.specs.declared.entry.Record.TheVariants as said
use Rattle.records.specs.Files.{IsUndamaged}
use Rattle.records.specs.Spelling.{IsPayload}
use Rattle.batches.specs.Batches.{IsFileOf, contents_of, in_order}
use Rattle.batches.specs.Contents.{IsContentOf}
use Rattle.batches.specs.Reading.{IsSegmentOf, end_of}
use Rattle.batches.specs.Readers.{SegmentKept, HasReadSegment}
use Rattle.records.specs.declared.ending.Ending.{Ending}
use Rattle.records.specs.declared.ending.Ending.TheVariants.{Clean, Cut, Torn, Damaged, NotASegment}
use Rattle.store.specs.Segments.{ReadSegment}
use Rattle.store.specs.Whole.{entry_payload}
use Rattle.store.specs.declared.fault.StoreFault.{StoreFault}
use Rattle.store.specs.declared.fault.StoreFault.TheVariants as fault
use Rattle.store.specs.declared.loading.Dropped.{Dropped}
use Rattle.store.specs.declared.loading.Loaded.{Loaded}
use Rattle.store.specs.declared.loading.Stage.{Stage}
use Rattle.store.specs.declared.loading.Stage.TheVariants.{Begin, Snapshot, Running}

-- how far a segment was read, and what is kept so far
pub record Loading (A : Type 0) : Type 0 where
  pub number : ℕ
  pub stage : Stage
  pub kept : KeptTable A
  pub changes : ℕ

module _ {A : Type 0} where
  -- an entry is what its payload says
  abbrev pub IsReadBack : Entry A → Type 0
  IsReadBack entry = record_in (entry_payload entry) ≡ Ok (said.Entry entry)

  -- what is kept under a name after an entry, and after entries, one after another
  abbrev pub kept_step : List ℕ → KeptMaildrop A → Entry A → KeptMaildrop A
  kept_step name kept entry = if bytes_eq entry.name name then changed kept entry.change else kept

  abbrev pub kept_by : List ℕ → KeptMaildrop A → List (Entry A) → KeptMaildrop A
  kept_by name kept [] = kept
  kept_by name kept (entry ∷ entries) = kept_by name (kept_step name kept entry) entries

  -- the payloads of a segment: its number, entries of the snapshot, and those of the epoch
  abbrev pub AreSaid : Stage → ℕ → List (List ℕ) → List (Entry A) → List (Entry A) → Type 0
  AreSaid Begin number payloads snapshot epoch = (payloads ≡ []) × ((snapshot ≡ []) × (epoch ≡ []))
  AreSaid Snapshot number payloads snapshot epoch = (payloads ≡ begin_payload number ∷ map entry_payload snapshot) × (epoch ≡ [])
  AreSaid Running number payloads snapshot epoch =
      payloads ≡ begin_payload number ∷ map entry_payload snapshot ++ opened_payload ∷ map entry_payload epoch

  -- these payloads were read: what is kept under each name comes of nothing by the entries that they have
  pub record HasLoaded (payloads : List (List ℕ)) (l : Loading A) : Type 0 where
    pub snapshot : List (Entry A)
    pub epoch : List (Entry A)
    pub said : AreSaid l.stage l.number payloads snapshot epoch
    pub read_back : AllByRecursion IsReadBack (snapshot ++ epoch)
    pub kept : (name : List ℕ) → kept_for name l.kept ≡ kept_by name nothing_kept (snapshot ++ epoch)
    pub count : l.changes ≡ length epoch

  -- What a record has was taken, one payload after another: in a file of batches it is the content of one, else it is a payload.
  pub record HasTakenBatch (content : List ℕ) (old new : Loading A) : Type 0 where
    pub batch : List (List ℕ)
    pub is : IsContentOf batch content
    pub fits : IsPayload content
    pub loads : (payloads : List (List ℕ)) → HasLoaded payloads old → HasLoaded (payloads ++ batch) new

  abbrev pub HasTakenRecord : Bool → List ℕ → Loading A → Loading A → Type 0
  HasTakenRecord true content old new = HasTakenBatch content old new
  HasTakenRecord false payload old new = (payloads : List (List ℕ)) → HasLoaded payloads old → HasLoaded (payloads ++ payload ∷ []) new

-- the payloads that records have
abbrev pub ArePayloadsOf : Bool → List (List ℕ) → List (List ℕ) → Type 0
ArePayloadsOf true records payloads = (batches : List (List (List ℕ))) × (records ≡ contents_of batches) × (payloads ≡ in_order batches)
ArePayloadsOf false records payloads = payloads ≡ records

module _ {A : Type 0} where
  -- a reader has handed out the records whose payloads a loader has taken, of a file of which these bytes came
  pub record IsInStep (bytes : List ℕ) (reader : SegmentKept) (l : Loading A) : Type 0 where
    pub records : List (List ℕ)
    pub payloads : List (List ℕ)
    pub read : HasReadSegment bytes records reader
    pub payloads_are : ArePayloadsOf reader.batched records payloads
    pub loaded : HasLoaded payloads l

  -- a front of a file was read, and the rest is still to come
  pub record HasTaken (bytes : List ℕ) (remaining : Option (List ℕ)) (reader : SegmentKept) (l : Loading A) : Type 0 where
    pub front : List ℕ
    pub rest : List ℕ
    pub parts : bytes ≡ front ++ rest
    pub remaining_is : remaining ≡ Some rest
    pub step : IsInStep front reader l

-- bytes of a segment that isn't damaged, whatever its payloads say: it ends as a whole segment does, or as a crash may leave it
abbrev pub EndsWell : List ℕ → Type 0
EndsWell bytes = (payloads : List (List ℕ)) × ((ending : Ending) × (IsSegmentOf bytes payloads ending × IsUndamaged ending))

-- what is dropped of a file of this size, which ends so
abbrev pub dropped_of : Ending → ℕ → Option Dropped
dropped_of (Clean place) size = None
dropped_of (Cut place) size = Some (record { at = place; bytes = size - place })
dropped_of (Torn place) size = Some (record { at = place; bytes = size - place })
dropped_of (Damaged place) size = None
dropped_of NotASegment size = None

-- a batch that ends 5 bytes after the file does
five_dropped : dropped_of (Cut 16) 21 ≡ Some (record { at = 16; bytes = 5 })
five_dropped = refl

-- A file with these bytes was read to its end, which is this one, and all of its records were taken. If it is a clean file of
-- batches, which have a salt, the bytes are a head with this salt and batches with these payloads.
pub record IsReadBy (salt : Option ℕ) (ending : Ending) (bytes : List ℕ) (l : Loading Global) : Type 0 where
  pub payloads : List (List ℕ)
  pub loaded : HasLoaded payloads l
  pub read : IsSegmentOf bytes payloads ending
  pub clean : (s size : ℕ) → salt ≡ Some s → ending ≡ Clean size → IsFileOf s payloads bytes × (size ≡ length bytes)

-- what was loaded, as a loader has it in the end
abbrev pub loading_of : Loaded → Loading Global
loading_of loaded = record { number = loaded.number; stage = Running; kept = loaded.kept; changes = loaded.changes }

-- A file with these bytes is the segment with this number, and this was loaded of it: what is kept under each name comes of
-- nothing by the changes in the file's records, one after another. If a record is bad, none that is whole follows it. What was
-- dropped is all that follows the last whole record.
pub record IsSegment (number : ℕ) (bytes : List ℕ) (loaded : Loaded) : Type 0 where
  pub payloads : List (List ℕ)
  pub read : IsSegmentOf bytes payloads loaded.ending
  pub undamaged : IsUndamaged loaded.ending
  pub dropped_is : loaded.dropped ≡ dropped_of loaded.ending (length bytes)
  pub within : end_of loaded.ending ≤ length bytes
  pub taken : HasLoaded payloads (loading_of loaded)
  pub number_is : loaded.number ≡ number

-- The segment of which this was loaded was read to the end of its last batch: its bytes are the head with this salt and batches
-- that have what was loaded, up to this size.
pub record IsCleanOf (loaded : Loaded) (clean : ReadSegment) : Type 0 where
  pub number_is : clean.number ≡ loaded.number
  pub segment : IsSegment loaded.number clean.bytes loaded
  pub bytes_are : IsFileOf clean.salt segment.payloads clean.bytes
  pub size_is : clean.size ≡ length clean.bytes

-- a fault that says where a segment is damaged is one of the segment with this number
abbrev pub NamesSegment : ℕ → StoreFault → Type 0
NamesSegment number fault.InUse = Unit {0}
NamesSegment number fault.NotBegun = Unit {0}
NamesSegment number fault.NotEmpty = Unit {0}
NamesSegment number (fault.Damaged segment at) = segment ≡ number
NamesSegment number (fault.Missing segment) = Unit {0}
NamesSegment number fault.NoteDamaged = Unit {0}
NamesSegment number fault.Memory = Unit {0}
NamesSegment number fault.Read = Unit {0}
NamesSegment number fault.Write = Unit {0}
