-- The bytes of the files that are delivered at a time.
use Rattle.std.specs.Prelude.{ℕ, ◌+◌, ◌-◌, ◌==◌, ◌||◌, ◌^◌, Bool, nat_le, min}

-- a file of so many bytes may come beside those that have `used` bytes together, or alone
abbrev pub fits : ℕ → ℕ → ℕ → Bool
fits used most count = (used == 0) || nat_le (used + count) most

-- what the files have together with it
abbrev pub used_with : ℕ → ℕ → ℕ
used_with used count = min (used + count) (2 ^ 64 - 1)
