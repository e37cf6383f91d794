-- Writing items one after another.
use Rattle.std.proofs.Common.{◌≡◌, ℕ, List, ◌∷◌, ◌++◌, sym, ap, ◌∙◌, append_assoc}
use Rattle.std.specs.List.{flat_map}
use Rattle.std.proofs.lemmas.List.Concat.{flat_map-cons}

pub next_written : {X : Type 0} (f : X → List ℕ) (done : List ℕ) (x : X) (rest items : List X) (total : List ℕ) → items ≡ x ∷ rest → done ++ flat_map f items ≡ total → (done ++ f x) ++ flat_map f rest ≡ total
next_written f done x rest items total is so_far =
    append_assoc done (f x) (flat_map f rest) ∙ ap (λ (t : List ℕ). done ++ t) (sym (flat_map-cons f x rest) ∙ ap (flat_map f) (sym is)) ∙ so_far
