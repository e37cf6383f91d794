-- What a segment of either version is read as.
use Rattle.std.specs.Prelude.{◌≡◌, ◌⊎◌, ◌==◌, Bool, true, false, List, ℕ, ◌∷◌, ◌++◌, take, drop, slice_index_or}
use Rattle.records.specs.Files.{IsReadAs}
use Rattle.records.specs.declared.ending.Ending.{Ending}
use Rattle.records.specs.declared.ending.Ending.TheVariants.{Clean, Cut, Torn, Damaged, NotASegment}
use Rattle.batches.specs.Batches.{AreBatches, contents_of, in_order}

-- the version is 2
abbrev pub is_batched : List ℕ → Bool
is_batched bytes = slice_index_or bytes 7 0 == 2

-- the bytes with the version 1 in place of theirs
abbrev pub as_first : List ℕ → List ℕ
as_first bytes = take 7 bytes ++ 1 ∷ drop 8 bytes

-- Bytes of version 2: what version 1 would read are the contents of these batches.
pub record IsReadByBatches (bytes : List ℕ) (batches : List (List (List ℕ))) (ending : Ending) : Type 0 where
  pub batched : is_batched bytes ≡ true
  pub batches_fit : AreBatches batches
  pub contents : IsReadAs (as_first bytes) (contents_of batches) ending

pub record IsReadInOrder (bytes : List ℕ) (payloads : List (List ℕ)) (ending : Ending) : Type 0 where
  pub batches : List (List (List ℕ))
  pub read : IsReadByBatches bytes batches ending
  pub payloads_are : payloads ≡ in_order batches

-- All other bytes are read as before.
pub record IsReadSingly (bytes : List ℕ) (payloads : List (List ℕ)) (ending : Ending) : Type 0 where
  pub single : is_batched bytes ≡ false
  pub read : IsReadAs bytes payloads ending

-- the bytes of a segment are read as these payloads, and end so
abbrev pub IsSegmentOf : List ℕ → List (List ℕ) → Ending → Type 0
IsSegmentOf bytes payloads ending = IsReadInOrder bytes payloads ending ⊎ IsReadSingly bytes payloads ending

-- where the last whole record of a file ends, or 0 if no segment's head was found
abbrev pub end_of : Ending → ℕ
end_of (Clean place) = place
end_of (Cut place) = place
end_of (Torn place) = place
end_of (Damaged place) = place
end_of NotASegment = 0
