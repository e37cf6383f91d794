-- When an epoch ends by what it has come to.
use Rattle.std.specs.Prelude.{◌≡◌, refl, ℕ, ◌+◌, ◌*◌, ◌&&◌, ◌||◌, Bool, min, nat_lt, nat_le, if◌then◌else◌}
use Rattle.rolls.specs.declared.rolls.Due.{Due}
use Rattle.rolls.specs.declared.rolls.Due.TheVariants.{No, Quiet, Forced}
use Rattle.rolls.specs.declared.rolls.EpochLoad.{EpochLoad}
use Rattle.rolls.specs.declared.rolls.RollLimits.{RollLimits}

-- the highest number of 64 bits, at which sums stay
abbrev pub highest : ℕ
highest = 18446744073709551615

abbrev pub no_load : EpochLoad
no_load = record { sessions = 0; bytes = 0 }

abbrev pub after_session : ℕ → EpochLoad → EpochLoad
after_session bytes load = record { sessions = min (load.sessions + 1) highest; bytes = min (load.bytes + bytes) highest }

abbrev pub after_delivery : ℕ → ℕ → EpochLoad → EpochLoad
after_delivery messages octets load =
    record load { bytes = min (load.bytes + min (min (messages * 2700) highest + octets) highest) highest }

-- what a session leaves, about
abbrev pub session_bytes : ℕ → ℕ → ℕ → ℕ
session_bytes asked listed lines =
    min (min (min (asked * 2700) highest + min (listed * 25) highest) highest + min (lines * 8) highest) highest

-- at least so many times the limit. A limit of 0 is none
abbrev pub reaches : ℕ → ℕ → ℕ → Bool
reaches count limit times = nat_lt 0 limit && nat_le (limit * times) count

abbrev pub has_reached : EpochLoad → RollLimits → ℕ → Bool
has_reached load limits times = reaches load.sessions limits.sessions times || reaches load.bytes limits.bytes times

-- An epoch ends once no session is open if it has as much as a limit, and in any case if it has five times as much and is a
-- minute old.
abbrev pub when_due : EpochLoad → RollLimits → ℕ → Due
when_due load limits age_ms =
    if has_reached load limits 5 && nat_le 60000 age_ms then Forced
    else if has_reached load limits 1 then Quiet
    else No

module _ where
  abbrev limits : RollLimits
  limits = record { sessions = 10; bytes = 0 }

  young : when_due (record { sessions = 9; bytes = 1000000 }) limits 100000 ≡ No
  young = refl

  enough : when_due (record { sessions = 10; bytes = 0 }) limits 100000 ≡ Quiet
  enough = refl

  much : when_due (record { sessions = 50; bytes = 0 }) limits 60000 ≡ Forced
  much = refl

  -- the last roll was less than a minute ago
  too_soon : when_due (record { sessions = 50; bytes = 0 }) limits 59999 ≡ Quiet
  too_soon = refl

  -- a login that lists four messages, and its QUIT, in three lines
  login : session_bytes 2 4 3 ≡ 5524
  login = refl
