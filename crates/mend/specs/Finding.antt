-- Whole records behind damage.
use Rattle.std.specs.Prelude.{◌≡◌, ℕ, zero, suc, ◌+◌, ◌-◌, Bool, List, [], ◌∷◌, length, drop, Option, Some, None}
use Rattle.std.specs.Option.{option_map_or}
use Rattle.std.specs.declared.alloc.Global.{Global}
use Rattle.maildrop.specs.Kept.{KeptTable}
use Rattle.records.specs.Reading.{record_at}
use Rattle.mend.specs.Taking.{HasTakenRecord}

-- The payloads of the whole records in what is left of a file of this size: where none stands, one byte is passed over. The first
-- number is how many turns this may take, and each takes a byte or more.
abbrev pub found : ℕ → ℕ → ℕ → List ℕ → List (List ℕ)
found turns salt size [] = []
found zero salt size (b ∷ bytes) = []
found (suc turns) salt size (b ∷ bytes) =
    option_map_or (λ r. r.0 ∷ found turns salt size r.1) (record_at salt (size - length (b ∷ bytes)) (b ∷ bytes)) (found turns salt size bytes)

-- how many bytes are passed over
abbrev pub missed : ℕ → ℕ → ℕ → List ℕ → ℕ
missed turns salt size [] = 0
missed zero salt size (b ∷ bytes) = 0
missed (suc turns) salt size (b ∷ bytes) =
    option_map_or (λ r. missed turns salt size r.1) (record_at salt (size - length (b ∷ bytes)) (b ∷ bytes)) (suc (missed turns salt size bytes))

-- the same from this place of a file on
abbrev pub found_from : ℕ → ℕ → List ℕ → List (List ℕ)
found_from salt from bytes = found (length bytes) salt (length bytes) (drop from bytes)

abbrev pub missed_from : ℕ → ℕ → List ℕ → ℕ
missed_from salt from bytes = missed (length bytes) salt (length bytes) (drop from bytes)

-- One step of the search: the record at the front was taken, if one stands there, or one byte was passed over, and nothing changed.
abbrev pub IsStep : Bool → Option (List ℕ × List ℕ) → List ℕ → List ℕ → KeptTable Global → KeptTable Global → Type 0
IsStep batched (Some found) rest others old new = (others ≡ found.1) × HasTakenRecord batched found.0 old new
IsStep batched None rest others old new = (others ≡ drop 1 rest) × (new ≡ old)

-- how many bytes a step passes over
abbrev pub missed_in : Option (List ℕ × List ℕ) → ℕ
missed_in (Some found) = 0
missed_in None = 1
