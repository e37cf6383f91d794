-- Lists that are related element by element.
use Rattle.std.proofs.Common.{◌≡◌, ◌∙◌, refl, List, [], ◌∷◌, ◌++◌, map, ap}
use Rattle.std.specs.List.{AllZip}

module _ {X Y : Type 0} (R : X → Y → Type 0) where
  pub zip_push : (xs : List X) (ys : List Y) (x : X) (y : Y) → AllZip R xs ys → R x y → AllZip R (xs ++ x ∷ []) (ys ++ y ∷ [])
  zip_push [] [] x y so new = (new, tt)
  zip_push [] (b ∷ ys) x y so new = absurd so
  zip_push (a ∷ xs) [] x y so new = absurd so
  zip_push (a ∷ xs) (b ∷ ys) x y so new = (so.0, zip_push xs ys x y so.1 new)

module _ {X Y Z : Type 0} (R : X → Y → Type 0) (S : Y → Z → Type 0) (T : X → Z → Type 0) where
  -- what is related through the list between them
  pub zip_through : ((x : X) (y : Y) (z : Z) → R x y → S y z → T x z) → (xs : List X) (ys : List Y) (zs : List Z) → AllZip R xs ys → AllZip S ys zs → AllZip T xs zs
  zip_through joins [] [] [] first second = tt
  zip_through joins [] [] (z ∷ zs) first second = absurd second
  zip_through joins [] (y ∷ ys) zs first second = absurd first
  zip_through joins (x ∷ xs) [] zs first second = absurd first
  zip_through joins (x ∷ xs) (y ∷ ys) [] first second = absurd second
  zip_through joins (x ∷ xs) (y ∷ ys) (z ∷ zs) first second = (joins x y z first.0 second.0, zip_through joins xs ys zs first.1 second.1)

module _ {X Y : Type 0} (f : X → Y) where
  -- a list of which each element is what f makes of the other's
  pub zip_map : (xs : List X) (ys : List Y) → AllZip (λ x y. y ≡ f x) xs ys → ys ≡ map f xs
  zip_map [] [] so = refl
  zip_map [] (y ∷ ys) so = absurd so
  zip_map (x ∷ xs) [] so = absurd so
  zip_map (x ∷ xs) (y ∷ ys) so = ap (λ y. y ∷ ys) so.0 ∙ ap (λ ys. f x ∷ ys) (zip_map xs ys so.1)
