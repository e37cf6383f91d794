-- Where a search for a whole record ends.
use Rattle.std.specs.Prelude.{◌≡◌, ℕ, ◌+◌, ◌<◌, List, length, drop, is_some, true}
use Rattle.records.specs.Reading.{record_at}

-- a whole record stands after so many of these bytes, which stand at this place
pub record StandsAt (salt at k : ℕ) (bytes : List ℕ) : Type 0 where
  pub within : k < length bytes
  pub stands : is_some (record_at salt (at + k) (drop k bytes)) ≡ true
