-- The keys of the messages of a file that is delivered under a key.
use Rattle.std.specs.Prelude.{ℕ, suc, List, Option, Some, None, nat_le, if◌then◌else◌}
use Rattle.script.specs.Keys.{numbered_key, last_message}

-- the key of the message at this place, counted from 0: the prefix with the number from 1 on after it
abbrev pub key_at : Option (List ℕ) → ℕ → Option (List ℕ)
key_at None place = None
key_at (Some prefix) place = if nat_le (suc place) last_message then Some (numbered_key prefix (suc place)) else None
