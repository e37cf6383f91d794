-- How long an operator is waited for.
use Rattle.std.specs.Prelude.{ℕ, ◌-◌, min, max}
use Rattle.ports.specs.declared.operator_reader.Awaited.{Awaited}
use Rattle.ports.specs.declared.operator_reader.Awaited.TheVariants.{Line, File}

-- in milliseconds: a file may pause for so long, and isn't late before
abbrev pub longest_pause_ms : ℕ
longest_pause_ms = 60000

-- For how many milliseconds a read may wait when so many have passed, and so many bytes have come. A file comes by a byte
-- a millisecond at least, once the longest pause has passed since it began.
abbrev pub left_ms : Awaited → ℕ → ℕ → ℕ
left_ms (Line most) passed bytes = most - passed
left_ms File passed bytes = min longest_pause_ms (max longest_pause_ms bytes - passed)
