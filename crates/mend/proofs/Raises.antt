-- Names that are taken one after another.
use Rattle.std.proofs.Common.{◌≡◌, ℕ, zero, suc, List, [], ◌∷◌, ◌++◌, take, Some, sym, ap}
use Rattle.std.specs.Prelude.{slice_get}

same_some : {X : Type 0} {x y : X} → Some x ≡ Some y → x ≡ y
same_some e = cc

pub take_got : {X : Type 0} (xs : List X) (j : ℕ) (x : X) → slice_get xs j ≡ Some x → take (suc j) xs ≡ take j xs ++ x ∷ []
take_got [] j x got = absurd (cc)
take_got (y ∷ ys) zero x got = ap (λ z. z ∷ []) (same_some got)
take_got (y ∷ ys) (suc j) x got = ap (λ zs. y ∷ zs) (take_got ys j x got)
