-- Changes that a reader takes, since each of them can come where it comes.
use Rattle.std.specs.Prelude.{◌≤◌, Bool, true, ◌&&◌, List, [], ◌∷◌}
use Rattle.std.specs.List.{All, IsDistinct}
use Rattle.std.specs.Map.{keys_of}
use Rattle.std.specs.Str.{bytes_eq}
use Rattle.maildrop.specs.Changes.{can_change, changed, changed_if_fit}
use Rattle.maildrop.specs.Kept.{KeptMaildrop, IsConsistent}
use Rattle.maildrop.specs.declared.change.Change.{Change}

module _ {A : Type 0} where
  -- whether each of these changes can come where it comes
  abbrev pub can_come : KeptMaildrop A → List (Change A) → Bool
  can_come kept [] = true
  can_come kept (change ∷ changes) = can_change kept change && can_come (changed kept change) changes

  -- what is kept after changes, one after another, without those that can't come
  abbrev pub taken_by : KeptMaildrop A → List (Change A) → KeptMaildrop A
  taken_by kept [] = kept
  taken_by kept (change ∷ changes) = taken_by (changed_if_fit kept change) changes

  -- what holds of each maildrop that came from nothing by changes that could come
  pub record IsSound (kept : KeptMaildrop A) : Type 0 where
    pub consistent : IsConsistent kept
    -- unique ids begin with 1
    pub numbered : All (λ m. 1 ≤ m.uid) kept.messages
    -- no key is there twice
    pub different : IsDistinct bytes_eq (keys_of kept.keys)
