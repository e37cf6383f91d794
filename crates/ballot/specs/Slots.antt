-- Lists of what stands at slots, in slot order, as an ordered map keeps them.
use Rattle.std.specs.Prelude.{ℕ, ◌<◌, List, [], ◌∷◌, Option}
use Rattle.std.specs.Map.{lookup, set_value, remove_entry}
use Rattle.std.specs.BTreeMap.{insert_entry, is_at}
use Rattle.std.specs.Ordering.{nat_cmp}

module _ {X : Type 0} where
  -- what stands at the slot
  abbrev pub at_slot : ℕ → List (ℕ × X) → Option X
  at_slot s es = lookup (is_at (nat_cmp s)) es

  -- x at the slot, a new one or in place of the old
  abbrev pub with_slot : ℕ → X → List (ℕ × X) → List (ℕ × X)
  with_slot s x es = insert_entry nat_cmp es s x

  -- x at the slot, if something stands there
  abbrev pub set_slot : ℕ → X → List (ℕ × X) → List (ℕ × X)
  set_slot s x es = set_value (is_at (nat_cmp s)) es x

  -- nothing at the slot
  abbrev pub without_slot : ℕ → List (ℕ × X) → List (ℕ × X)
  without_slot s es = remove_entry (is_at (nat_cmp s)) es

  -- each slot is above s
  abbrev pub Above : ℕ → List (ℕ × X) → Type 0
  Above s [] = Unit {0}
  Above s (e ∷ es) = (s < e.0) × Above s es

  -- the slots rise strictly
  abbrev pub Rising : List (ℕ × X) → Type 0
  Rising [] = Unit {0}
  Rising (e ∷ es) = Above e.0 es × Rising es
