-- The ports at which nodes listen for one another.
use Rattle.std.specs.Prelude.{◌≡◌, ℕ, ◌+◌, nat_le, Option, Some, None, if◌then◌else◌, refl}

-- as many above the base as the node's number, if there is such a port
abbrev pub port_of : ℕ → ℕ → Option ℕ
port_of base node = if nat_le (base + node) 65535 then Some (base + node) else None

example_third : port_of 11000 3 ≡ Some 11003
example_third = refl

example_last : port_of 65526 9 ≡ Some 65535
example_last = refl

example_above : port_of 65527 9 ≡ None
example_above = refl
