-- Membership in a list.
use Rattle.std.specs.Prelude.{◌≡◌, List, [], ◌∷◌}
use mathlib.Core.Logic.{◌⊎◌}

-- x is in the list
abbrev pub IsIn : {A : Type 0} → A → List A → Type 0
IsIn x [] = ⊥
IsIn x (y ∷ ys) = (y ≡ x) ⊎ IsIn x ys
