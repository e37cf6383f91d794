-- What fits into a payload.
use Rattle.std.specs.Prelude.{◌≡◌, ℕ, ◌<◌, ◌^◌, List, [], ◌∷◌, length, Option, Some, None, true}
use Rattle.std.specs.List.{AllByRecursion}
use Rattle.maildrop.specs.Name.{is_name}
use Rattle.maildrop.specs.Key.{is_key}
use Rattle.maildrop.specs.declared.change.Change.{Change}
use Rattle.maildrop.specs.declared.change.Change.TheVariants.{Stored, Removed, Keyed, Next}
use Rattle.ledger.specs.Reading.{is_line, is_above}

-- each number is above the one before it
abbrev pub Rises : Option ℕ → List ℕ → Type 0
Rises last [] = Unit {0}
Rises last (x ∷ xs) = (is_above last x ≡ true) × Rises (Some x) xs

-- each item fits
abbrev pub FitAll : {X : Type 0} → (X → Type 0) → List X → Type 0
FitAll Fits xs = AllByRecursion Fits xs

abbrev pub FitsKey : Option (List ℕ) → Type 0
FitsKey None = Unit {0}
FitsKey (Some k) = is_key k ≡ true

-- a length that has four bytes
abbrev pub IsShort : List ℕ → Type 0
IsShort line = length line < 2 ^ 32

pub record FitsLine (line : List ℕ) : Type 0 where
  pub length : length line < 2 ^ 32
  pub rule : is_line line ≡ true

pub record FitsText (text : List (List ℕ)) : Type 0 where
  pub count : length text < 2 ^ 32
  pub lines : FitAll FitsLine text

pub record FitsUids (uids : List ℕ) : Type 0 where
  pub count : length uids < 2 ^ 32
  pub small : FitAll (λ uid. uid < 2 ^ 64) uids
  pub rise : Rises None uids

pub record FitsStored (uid : ℕ) (text : List (List ℕ)) (key : Option (List ℕ)) : Type 0 where
  pub small : uid < 2 ^ 64
  pub lines : FitsText text
  pub rule : FitsKey key

module _ {A : Type 0} where
  abbrev pub FitsChange : Change A → Type 0
  FitsChange (Stored uid text key) = FitsStored uid text key
  FitsChange (Removed uids) = FitsUids uids
  FitsChange (Keyed key uid) = (is_key key ≡ true) × (uid < 2 ^ 64)
  FitsChange (Next uid) = uid < 2 ^ 64

  pub record FitsEntry (slot : ℕ) (name : List ℕ) (change : Change A) : Type 0 where
    pub small : slot < 2 ^ 64
    pub rule : is_name name ≡ true
    pub fields : FitsChange change
