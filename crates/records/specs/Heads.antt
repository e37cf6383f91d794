-- What a file begins with, as it is read.
use Rattle.std.specs.Prelude.{ℕ, ◌==◌, ◌&&◌, Bool, true, List, [], ◌∷◌, take, drop}
use Rattle.std.specs.Int.{w64, from_be_bytes}
use Rattle.records.specs.Spelling.{magic}

-- one of the two begins with the other
abbrev pub agree : List ℕ → List ℕ → Bool
agree [] others = true
agree (b ∷ bytes) [] = true
agree (b ∷ bytes) (c ∷ others) = (b == c) && agree bytes others

-- the magic begins with these bytes, or they with the magic
abbrev pub may_begin : List ℕ → Bool
may_begin bytes = agree bytes magic

-- the salt of a head
abbrev pub salt_of : List ℕ → ℕ
salt_of head = from_be_bytes w64 (take 8 (drop 8 head))
