-- The keys of the messages of one file.
use Rattle.std.specs.Prelude.{ℕ, ◌++◌, ◌&&◌, nat_le, Bool, List, length, codes, decimal, if◌then◌else◌, Option, None, Some, IsTrue}
use Rattle.maildrop.specs.Key.{is_key}

-- the most bytes of a key but for a dot and nine digits
abbrev pub longest_prefix : ℕ
longest_prefix = 54

abbrev pub is_key_prefix : List ℕ → Bool
is_key_prefix bytes = nat_le (length bytes) longest_prefix && is_key bytes

abbrev pub IsKeyPrefix : List ℕ → Type 0
IsKeyPrefix bytes = IsTrue (is_key_prefix bytes)

-- nine digits
abbrev pub last_message : ℕ
last_message = 999999999

-- the key of a file's message of this number
abbrev pub numbered_key : List ℕ → ℕ → List ℕ
numbered_key prefix number = prefix ++ codes "." ++ decimal number

abbrev pub prefix_of : List ℕ → Option (List ℕ)
prefix_of bytes = if is_key_prefix bytes then Some bytes else None
