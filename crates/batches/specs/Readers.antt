-- What a reader keeps of a segment of either version.
use Rattle.std.specs.Prelude.{◌≡◌, ℕ, List, length, Bool, Option, None, if◌then◌else◌}
use Rattle.records.specs.Readers.{Kept, HasRead, salt_in}
use Rattle.batches.specs.Reading.{is_batched, as_first}

-- what a reader of the first version keeps, how many bytes have come, and whether the version is 2
pub record SegmentKept : Type 0 where
  pub reader : Kept
  pub seen : ℕ
  pub batched : Bool

-- the bytes as a reader of the first version is given them
abbrev pub turned : List ℕ → List ℕ
turned bytes = if is_batched bytes then as_first bytes else bytes

-- Of a segment these bytes came, and the payloads of these records were handed out. In a file of batches these are contents.
pub record HasReadSegment (bytes : List ℕ) (given : List (List ℕ)) (k : SegmentKept) : Type 0 where
  pub seen_is : k.seen ≡ length bytes
  pub batched_is : k.batched ≡ is_batched bytes
  pub read : HasRead (turned bytes) given k.reader

-- the salt of a file of batches, while batches are read or a whole one is searched for
abbrev pub batch_salt : SegmentKept → Option ℕ
batch_salt k = if k.batched then salt_in k.reader.phase else None
