-- How much a client may send, and how long it may take.
use Rattle.std.specs.Prelude.{ℕ, ◌-◌, ◌*◌, ◌^◌, ◌==◌, min, nat_le, Bool, true, false, if◌then◌else◌}
use Rattle.session_log.specs.declared.bounds.TimeLeft.{TimeLeft}
use Rattle.session_log.specs.declared.bounds.TimeLeft.TheVariants.{Any, Millis, Nothing}

abbrev pub most_bytes_before_login : ℕ
most_bytes_before_login = 65536

abbrev pub most_bytes : ℕ
most_bytes = 16777216

abbrev pub login_seconds : ℕ
login_seconds = 180

-- what may still be read of a client that has sent so many bytes, and is logged in or isn't
abbrev pub bytes_left : ℕ → Bool → ℕ
bytes_left read true = most_bytes - read
bytes_left read false = most_bytes_before_login - read

-- the seconds that a client has for a whole line, 0 for any number
abbrev pub line_seconds : Bool → ℕ → ℕ
line_seconds true idle = idle
line_seconds false idle = login_seconds

abbrev pub millis_in : ℕ → ℕ
millis_in seconds = min (seconds * 1000) (2 ^ 64 - 1)

-- what is left of so many seconds after so many milliseconds
abbrev pub time_left : ℕ → ℕ → TimeLeft
time_left seconds waited =
    if seconds == 0 then Any
    else if nat_le (millis_in seconds) waited then Nothing
    else Millis (millis_in seconds - waited)

abbrev pub next_read : ℕ → ℕ → ℕ
next_read left room = min left room
