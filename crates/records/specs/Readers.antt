-- What a reader keeps of a file that comes by pieces.
use Rattle.std.specs.Prelude.{◌≡◌, ℕ, ◌+◌, ◌<◌, ◌≤◌, ◌^◌, List, [], ◌++◌, length, drop, Option, Some, None, false, nat_lt, if◌then◌else◌}
use Rattle.records.specs.declared.ending.Ending.{Ending}
use Rattle.records.specs.declared.head.TheConstants.{HEAD}
use Rattle.records.specs.declared.phase.Phase.{Phase}
use Rattle.records.specs.declared.phase.Phase.TheVariants.{Head, Records, Search, Damaged, Other}
use Rattle.records.specs.Spelling.{ArePayloads, spelled, size_of, file_of}
use Rattle.records.specs.Heads.{may_begin, salt_of}
use Rattle.records.specs.Reading.{record_at}
use Rattle.records.specs.Files.{AreBytes, IsBad, Resumes, IsReadAs}

-- what it does with what comes, and the bytes that it has not passed, with their place in the file
pub record Kept : Type 0 where
  pub phase : Phase
  pub place : ℕ
  pub bytes : List ℕ

-- the head has not come whole
pub record IsBegun (bytes : List ℕ) (given : List (List ℕ)) (place : ℕ) (kept : List ℕ) : Type 0 where
  pub parts : bytes ≡ kept
  pub none_given : given ≡ []
  pub place_is : place ≡ 0
  pub short : length kept < HEAD

-- the bytes are a head, the records of these payloads, and what is kept
pub record IsAmong (salt : ℕ) (bytes : List ℕ) (given : List (List ℕ)) (place : ℕ) (kept : List ℕ) : Type 0 where
  pub salt_fits : salt < 2 ^ 64
  pub parts : bytes ≡ file_of salt given ++ kept
  pub given_fit : ArePayloads given
  pub place_is : place ≡ HEAD + size_of given

-- the bytes are a head, the records of these payloads, and a tail that begins with a bad record, which stands at this place
pub record IsStopped (salt bad : ℕ) (bytes : List ℕ) (given : List (List ℕ)) (tail : List ℕ) : Type 0 where
  pub among : IsAmong salt bytes given bad tail
  pub is_bad : IsBad salt bad tail

-- what is kept stands after that record, and up to there each place has a bad one
pub record IsSearching (salt bad : ℕ) (bytes : List ℕ) (given : List (List ℕ)) (place : ℕ) (kept : List ℕ) : Type 0 where
  pub tail : List ℕ
  pub passed : ℕ
  pub stopped : IsStopped salt bad bytes given tail
  pub within : passed ≤ length tail
  pub place_is : place ≡ bad + passed
  pub kept_is : kept ≡ drop passed tail
  pub are_bad : (j : ℕ) → j < passed → IsBad salt (bad + j) (drop j tail)

-- a whole record stands after the bad one; no more is kept
pub record IsDamaged (bad : ℕ) (bytes : List ℕ) (given : List (List ℕ)) (kept : List ℕ) : Type 0 where
  pub salt : ℕ
  pub tail : List ℕ
  pub stopped : IsStopped salt bad bytes given tail
  pub resumes : Resumes salt bad tail
  pub none_kept : kept ≡ []

-- the bytes do not begin with a head; no more is kept
pub record IsOther (bytes : List ℕ) (given : List (List ℕ)) (kept : List ℕ) : Type 0 where
  pub none_given : given ≡ []
  pub none : may_begin bytes ≡ false
  pub none_kept : kept ≡ []

abbrev pub IsIn : Phase → List ℕ → List (List ℕ) → ℕ → List ℕ → Type 0
IsIn Head bytes given place kept = IsBegun bytes given place kept
IsIn (Records salt) bytes given place kept = IsAmong salt bytes given place kept
IsIn (Search salt bad) bytes given place kept = IsSearching salt bad bytes given place kept
IsIn (Damaged bad) bytes given place kept = IsDamaged bad bytes given kept
IsIn Other bytes given place kept = IsOther bytes given kept

-- of a file these bytes came so far, and these payloads were handed out
pub record HasRead (bytes : List ℕ) (given : List (List ℕ)) (k : Kept) : Type 0 where
  pub are_bytes : AreBytes bytes
  pub in_phase : IsIn k.phase bytes given k.place k.bytes

abbrev pub IsEmptyOf : Phase → ℕ → List ℕ → Type 0
IsEmptyOf Head place kept = Unit {0}
IsEmptyOf (Records salt) place kept = record_at salt place kept ≡ None
IsEmptyOf (Search salt bad) place kept = Unit {0}
IsEmptyOf (Damaged bad) place kept = Unit {0}
IsEmptyOf Other place kept = Unit {0}

-- no whole record is left to be handed out
pub record IsDrained (k : Kept) : Type 0 where
  pub none_left : IsEmptyOf k.phase k.place k.bytes

-- the salt, while records are read or a whole one is searched for
abbrev pub salt_in : Phase → Option ℕ
salt_in Head = None
salt_in (Records salt) = Some salt
salt_in (Search salt bad) = Some salt
salt_in (Damaged bad) = None
salt_in Other = None

-- what is kept of bytes that a head has come of, or that begin otherwise
abbrev pub begun : List ℕ → Kept
begun bytes = record {
  phase = if may_begin bytes then Records (salt_of bytes) else Other;
  place = HEAD;
  bytes = if may_begin bytes then drop HEAD bytes else [];
}

-- what is kept once a piece has come
abbrev pub taken_in : Phase → ℕ → List ℕ → List ℕ → Kept
taken_in Head place kept piece =
    if nat_lt (length (kept ++ piece)) HEAD then record { phase = Head; place = place; bytes = kept ++ piece }
    else begun (kept ++ piece)
taken_in (Records salt) place kept piece = record { phase = Records salt; place = place; bytes = kept ++ piece }
taken_in (Search salt bad) place kept piece = record { phase = Search salt bad; place = place; bytes = kept ++ piece }
taken_in (Damaged bad) place kept piece = record { phase = Damaged bad; place = place; bytes = kept }
taken_in Other place kept piece = record { phase = Other; place = place; bytes = kept }

-- so many bytes are whole records, one after another, the first at this place
pub record IsRun (salt at : ℕ) (bytes : List ℕ) (n : ℕ) : Type 0 where
  pub payloads : List (List ℕ)
  pub parts : bytes ≡ spelled salt at payloads ++ drop n bytes
  pub payloads_fit : ArePayloads payloads
  pub size_is : n ≡ size_of payloads

-- Of a file these bytes came, and these payloads were handed out. It is read as these and more, and ends so. There are no
-- more, if no whole record was left.
pub record IsEndOf (bytes : List ℕ) (given : List (List ℕ)) (k : Kept) (ending : Ending) : Type 0 where
  pub more : List (List ℕ)
  pub is_read : IsReadAs bytes (given ++ more) ending
  pub none_left : IsDrained k → more ≡ []
