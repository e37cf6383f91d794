-- How records stand in a file. Numbers are unsigned, the most significant byte first.
use Rattle.std.specs.Prelude.{ℕ, ◌+◌, ◌≤◌, ◌^◌, ◌%◌, List, [], ◌∷◌, ◌++◌, length}
use Rattle.std.specs.List.{AllByRecursion}
use Rattle.std.specs.Int.{w32, w64, to_be_bytes, to_le_bytes}
use Rattle.std.specs.Hash.DefaultHasher as sip
use Rattle.records.specs.declared.head.TheConstants.{HEAD}
use Rattle.records.specs.declared.place.TheConstants.{LARGEST_PAYLOAD, FRAME}

-- The sum of some bytes of a record that stands at a place of a file with this salt. Places count from the first byte of
-- the file, its head included.
unfoldable pub sum_of : ℕ → ℕ → List ℕ → ℕ
sum_of salt at bytes = sip.finish (sip.write (sip.write (sip.write sip.initial (to_le_bytes w64 salt)) (to_le_bytes w64 at)) bytes) % 2 ^ 64

-- a record: how long its payload is, the sum of that, the payload, and its sum
unfoldable pub spell : ℕ → ℕ → List ℕ → List ℕ
spell salt at payload =
    to_be_bytes w32 (length payload)
    ++ (to_be_bytes w64 (sum_of salt at (to_be_bytes w32 (length payload)))
    ++ (payload ++ to_be_bytes w64 (sum_of salt at payload)))

-- records one after another, the first at this place
abbrev pub spelled : ℕ → ℕ → List (List ℕ) → List ℕ
spelled salt at [] = []
spelled salt at (payload ∷ payloads) = spell salt at payload ++ spelled salt (at + (FRAME + length payload)) payloads

-- how many bytes they take
abbrev pub size_of : List (List ℕ) → ℕ
size_of [] = 0
size_of (payload ∷ payloads) = FRAME + length payload + size_of payloads

-- what a record can have
abbrev pub IsPayload : List ℕ → Type 0
IsPayload payload = length payload ≤ LARGEST_PAYLOAD

abbrev pub ArePayloads : List (List ℕ) → Type 0
ArePayloads payloads = AllByRecursion IsPayload payloads

-- what a file begins with: `mdropd`, 0 and the version 1
abbrev pub magic : List ℕ
magic = 109 ∷ 100 ∷ 114 ∷ 111 ∷ 112 ∷ 100 ∷ 0 ∷ 1 ∷ []

-- the head of a file with this salt
unfoldable pub head_of : ℕ → List ℕ
head_of salt = magic ++ to_be_bytes w64 salt

-- a file with this salt: its head, and its records
abbrev pub file_of : ℕ → List (List ℕ) → List ℕ
file_of salt payloads = head_of salt ++ spelled salt HEAD payloads
