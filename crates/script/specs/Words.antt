-- Words and numbers.
use Rattle.std.specs.Prelude.{ℕ, zero, suc, ◌-◌, ◌^◌, ◌==◌, ◌&&◌, nat_le, not, Bool, true, false, List, ◌∷◌, length, if◌then◌else◌, Option, None, Some}
use Rattle.std.specs.List.{list_all}
use Rattle.std.specs.Option.{option_map}
use Rattle.std.specs.Char.{is_ascii_digit}
use Rattle.maildrop.specs.Key.{is_key}
use Rattle.pop3_wire.specs.Commands.{number_value}
use Rattle.apop.specs.Stamp.{are_runs, longest_nonce, longest_host}

-- a zero stands in front of other digits
abbrev pub has_leading_zero : List ℕ → Bool
has_leading_zero (first ∷ second ∷ digits) = first == 48
has_leading_zero digits = false

-- digits, at least one, without a leading zero
abbrev pub is_decimal : List ℕ → Bool
is_decimal bytes = nat_le 1 (length bytes) && list_all is_ascii_digit bytes && not (has_leading_zero bytes)

-- the number of these digits, if it is in the range
abbrev pub number_between : ℕ → ℕ → List ℕ → Option ℕ
number_between low high bytes =
    if is_decimal bytes && nat_le low (number_value bytes) && nat_le (number_value bytes) high
    then Some (number_value bytes)
    else None

-- a number of 64 bits
abbrev pub number_of : List ℕ → Option ℕ
number_of bytes = number_between 0 (2 ^ 64 - 1) bytes

abbrev pub last_node : ℕ
last_node = 9

-- the number of a node
abbrev pub node_of : List ℕ → Option ℕ
node_of bytes = number_between 1 last_node bytes

-- any node for the number 0, or else the node of a number
abbrev pub node_numbered : ℕ → Option ℕ
node_numbered zero = None
node_numbered (suc n) = Some (suc n)

-- the number of a node, or 0 for any node
abbrev pub node_or_any : List ℕ → Option (Option ℕ)
node_or_any bytes = option_map node_numbered (number_between 0 last_node bytes)

abbrev pub key_of : List ℕ → Option (List ℕ)
key_of bytes = if is_key bytes then Some bytes else None

abbrev pub is_nonce : List ℕ → Bool
is_nonce text = nat_le (length text) longest_nonce && are_runs false text

abbrev pub is_host : List ℕ → Bool
is_host text = nat_le (length text) longest_host && are_runs true text

-- the most slots of a window
abbrev pub widest_window : ℕ
widest_window = 1000
