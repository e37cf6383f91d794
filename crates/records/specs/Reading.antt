-- What stands at a place of a file.
use Rattle.std.specs.Prelude.{ℕ, ◌+◌, List, length, take, drop, Option, Some, None, Bool, true, false, nat_lt, ◌==◌, ◌&&◌, not, if◌then◌else◌}
use Rattle.std.specs.Int.{Width, w32, w64, byte_len, from_be_bytes, to_be_bytes}
use Rattle.records.specs.declared.place.TheConstants.{LARGEST_PAYLOAD}
use Rattle.records.specs.Spelling.{sum_of}

infixl 10 ◌>>=◌
abbrev pub ◌>>=◌ : {A B : Type 0} → Option A → (A → Option B) → Option B
None >>= f = None
(Some x) >>= f = f x

-- a number, and the bytes after it
abbrev pub number_at : Width → List ℕ → Option (ℕ × List ℕ)
number_at w bytes = if nat_lt (length bytes) (byte_len w) then None else Some (from_be_bytes w (take (byte_len w) bytes), drop (byte_len w) bytes)

-- so many bytes, and those after them
abbrev pub part_at : ℕ → List ℕ → Option (List ℕ × List ℕ)
part_at n bytes = if nat_lt (length bytes) n then None else Some (take n bytes, drop n bytes)

-- the value, if the test holds
abbrev pub checked : {A : Type 0} → Bool → A → Option A
checked holds x = if holds then Some x else None

-- this number and this sum are the head of a record at this place
abbrev pub is_head : ℕ → ℕ → ℕ → ℕ → Bool
is_head salt at n sum = not (nat_lt LARGEST_PAYLOAD n) && (sum == sum_of salt at (to_be_bytes w32 n))

-- how long the payload of a record is whose head stands here, and the bytes after the head
unfoldable pub head_at : ℕ → ℕ → List ℕ → Option (ℕ × List ℕ)
head_at salt at bytes = do
  n ← number_at w32 bytes
  s ← number_at w64 n.1
  checked (is_head salt at n.0 s.0) (n.0, s.1)

-- the payload of a whole record that stands here, and the bytes after it
unfoldable pub record_at : ℕ → ℕ → List ℕ → Option (List ℕ × List ℕ)
record_at salt at bytes = do
  head ← head_at salt at bytes
  payload ← part_at head.0 head.1
  s ← number_at w64 payload.1
  checked (s.0 == sum_of salt at payload.0) (payload.0, s.1)

-- the bytes end before the record does whose head was read
abbrev pub passes_end : Option (ℕ × List ℕ) → Bool
passes_end None = false
passes_end (Some head) = nat_lt (length head.1) (head.0 + 8)

-- whether the bytes end inside a head, or inside a record whose head is right
abbrev pub is_cut : ℕ → ℕ → List ℕ → Bool
is_cut salt at bytes = if nat_lt (length bytes) 12 then true else passes_end (head_at salt at bytes)
