-- What a file of records is read as.
use Rattle.std.specs.Prelude.{◌≡◌, ◌⊎◌, ℕ, suc, ◌+◌, ◌-◌, ◌<◌, ◌^◌, List, [], ◌∷◌, ◌++◌, length, take, drop, None, is_some, true, false, nat_lt, slice_index_or, if◌then◌else◌}
use Rattle.records.specs.Spelling.{IsPayload, ArePayloads, spell, spelled, size_of, file_of}
use Rattle.records.specs.Heads.{may_begin}
use Rattle.records.specs.Reading.{record_at, is_cut}
use Rattle.records.specs.declared.head.TheConstants.{HEAD}
use Rattle.records.specs.declared.place.TheConstants.{FRAME}
use Rattle.records.specs.declared.ending.Ending.{Ending}
use Rattle.records.specs.declared.ending.Ending.TheVariants.{Clean, Cut, Torn, Damaged, NotASegment}

abbrev pub AreBytes : List ℕ → Type 0
AreBytes bytes = (i : ℕ) → slice_index_or bytes i 0 < 256

-- a whole record stands somewhere in these bytes, which stand at this place
abbrev pub Resumes : ℕ → ℕ → List ℕ → Type 0
Resumes salt at bytes = (k : ℕ) × (k < length bytes) × (is_some (record_at salt (at + k) (drop k bytes)) ≡ true)

-- a bad record: no whole one stands here, and it isn't cut, so that no bytes to come can make it whole
pub record IsBad (salt at : ℕ) (bytes : List ℕ) : Type 0 where
  pub none : record_at salt at bytes ≡ None
  pub whole : is_cut salt at bytes ≡ false

-- how a file ends whose last record ends at this place, if this rest follows it
abbrev pub EndsSo : Ending → ℕ → ℕ → List ℕ → Type 0
EndsSo (Clean place) salt at rest = (place ≡ at) × (rest ≡ [])
EndsSo (Cut place) salt at rest = (place ≡ at) × (is_cut salt at rest ≡ true) × (0 < length rest)
EndsSo (Torn place) salt at rest = (place ≡ at) × IsBad salt at rest × (Resumes salt at rest → ⊥)
EndsSo (Damaged place) salt at rest = (place ≡ at) × IsBad salt at rest × Resumes salt at rest
EndsSo NotASegment salt at rest = ⊥

-- the bytes are a head, the records of these payloads, and a rest at whose front no record stands
pub record HasHead (bytes : List ℕ) (payloads : List (List ℕ)) (ending : Ending) : Type 0 where
  pub salt : ℕ
  pub rest : List ℕ
  pub salt_fits : salt < 2 ^ 64
  pub parts : bytes ≡ file_of salt payloads ++ rest
  pub payloads_fit : ArePayloads payloads
  pub no_more : record_at salt (HEAD + size_of payloads) rest ≡ None
  pub ends : EndsSo ending salt (HEAD + size_of payloads) rest

abbrev pub EndsInHead : Ending → List ℕ → Type 0
EndsInHead (Cut place) bytes = (place ≡ 0) × (length bytes < HEAD) × (may_begin bytes ≡ true)
EndsInHead NotASegment bytes = may_begin bytes ≡ false
EndsInHead (Clean place) bytes = ⊥
EndsInHead (Torn place) bytes = ⊥
EndsInHead (Damaged place) bytes = ⊥

-- the bytes end inside a head, or do not begin with one
pub record HasNoHead (bytes : List ℕ) (payloads : List (List ℕ)) (ending : Ending) : Type 0 where
  pub no_payloads : payloads ≡ []
  pub ends : EndsInHead ending bytes

-- the bytes of a file are read as these payloads, and end so
pub record IsReadAs (bytes : List ℕ) (payloads : List (List ℕ)) (ending : Ending) : Type 0 where
  pub are_bytes : AreBytes bytes
  pub parts : HasHead bytes payloads ending ⊎ HasNoHead bytes payloads ending

-- the file is no worse than cut
abbrev pub IsUnharmed : Ending → Type 0
IsUnharmed (Clean place) = Unit {0}
IsUnharmed (Cut place) = Unit {0}
IsUnharmed (Torn place) = ⊥
IsUnharmed (Damaged place) = ⊥
IsUnharmed NotASegment = ⊥

-- the file has ended so by a crash: it is clean, cut or torn
abbrev pub IsUndamaged : Ending → Type 0
IsUndamaged (Clean place) = Unit {0}
IsUndamaged (Cut place) = Unit {0}
IsUndamaged (Torn place) = Unit {0}
IsUndamaged (Damaged place) = ⊥
IsUndamaged NotASegment = ⊥

-- how many of the records end within the first n bytes
abbrev pub whole_in : ℕ → List (List ℕ) → ℕ
whole_in n [] = 0
whole_in n (payload ∷ payloads) =
    if nat_lt n (FRAME + length payload) then 0 else suc (whole_in (n - (FRAME + length payload)) payloads)

-- a front of a record, which isn't the whole
pub record IsFront (salt at : ℕ) (bytes : List ℕ) : Type 0 where
  pub payload : List ℕ
  pub n : ℕ
  pub fits : IsPayload payload
  pub short : n < FRAME + length payload
  pub is : bytes ≡ take n (spell salt at payload)

-- no record stands in the bytes
abbrev pub HasNoRecord : ℕ → ℕ → List ℕ → Type 0
HasNoRecord salt at bytes = (record_at salt at bytes ≡ None) × (Resumes salt at bytes → ⊥)

-- What a crash may leave of records that were written and aren't known to be on the disk: some of them, and then a front of
-- a record, or bytes in which none stands.
pub record IsLeft (salt at : ℕ) (written : List (List ℕ)) (bytes : List ℕ) : Type 0 where
  pub count : ℕ
  pub rest : List ℕ
  pub parts : bytes ≡ spelled salt at (take count written) ++ rest
  pub torn : IsFront salt (at + size_of (take count written)) rest ⊎ HasNoRecord salt (at + size_of (take count written)) rest

-- all of the synced payloads were read, and some of those written after them
abbrev pub IsBetween : List (List ℕ) → List (List ℕ) → List (List ℕ) → Type 0
IsBetween payloads synced written = (k : ℕ) × (payloads ≡ synced ++ take k written)
