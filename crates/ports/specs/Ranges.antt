-- Numbers in a range, and those of ports.
use Rattle.std.specs.Prelude.{◌≡◌, refl, ℕ, ◌&&◌, Bool, true, false, nat_le, Option, None, Some}

abbrev pub last_port : ℕ
last_port = 65535

abbrev pub is_between : ℕ → ℕ → ℕ → Bool
is_between low high n = nat_le low n && nat_le n high

-- a number that may be left out
abbrev pub may_be_between : ℕ → ℕ → Option ℕ → Bool
may_be_between low high None = true
may_be_between low high (Some n) = is_between low high n

left_out : may_be_between 1 last_port None ≡ true
left_out = refl

highest_port : may_be_between 1 last_port (Some 65535) ≡ true
highest_port = refl

no_such_port : may_be_between 1 last_port (Some 65536) ≡ false
no_such_port = refl
