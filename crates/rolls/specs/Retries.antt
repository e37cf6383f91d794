-- When an epoch that couldn't end is tried to end again.
use Rattle.std.specs.Prelude.{◌≡◌, refl, ℕ, ◌*◌, min, max}
use Rattle.rolls.specs.Rolls.{highest}

-- in milliseconds: a second, then twice as long each time, up to a minute
abbrev pub next_wait_ms : ℕ → ℕ
next_wait_ms wait = min (max (min (wait * 2) highest) 1000) 60000

module _ where
  first : next_wait_ms 0 ≡ 1000
  first = refl

  second : next_wait_ms 1000 ≡ 2000
  second = refl

  last : next_wait_ms 32000 ≡ 60000
  last = refl
