-- Names that differ from one another and from those of a set.
use Rattle.std.proofs.Common.{◌≡◌, ℕ, ◌+◌, ◌<◌, Bool, true, false, not, ◌&&◌, cond, List, [], ◌∷◌, length, drop, get_or, add-one, drop-cons, refl, sym, ap, ◌∙◌}
use Rattle.std.specs.BTreeSet.{BTreeSet, contains, Updates}
use Rattle.std.specs.Cmp.Lexicographic.{slice_cmp}
use Rattle.std.specs.List.{list_all}
use Rattle.std.specs.Ordering.{nat_cmp}
use Rattle.std.specs.Str.{bytes_eq}
use Rattle.std.proofs.lemmas.Map.Text.{is_eq-slice_cmp}
use Rattle.maildrop.specs.Name.{are_different}

-- whether the set has the name
abbrev pub has : BTreeSet (List ℕ) → List ℕ → Bool
has seen name = contains (slice_cmp nat_cmp) seen name

-- whether no name is there twice, and none is in the set
abbrev pub differ_from : BTreeSet (List ℕ) → List (List ℕ) → Bool
differ_from seen names = are_different names && list_all (λ name. not (has seen name)) names

and-true : (b : Bool) → b ≡ (b && true)
and-true true = refl
and-true false = refl

-- what is new here, and among the others
new_here : (same here others seen : Bool) → (not (cond same true here) && (others && seen)) ≡ ((not same && others) && (not here && seen))
new_here true here others seen = refl
new_here false true true seen = refl
new_here false true false seen = refl
new_here false false true seen = refl
new_here false false false seen = refl

-- the same, if the first name is new
first_is_new : (others different seen : Bool) → ((others && different) && (true && seen)) ≡ (different && (others && seen))
first_is_new true different seen = refl
first_is_new false true seen = refl
first_is_new false false seen = refl

none_is_in : (seen : BTreeSet (List ℕ)) → seen.keys ≡ [] → (names : List (List ℕ)) → list_all (λ name. not (has seen name)) names ≡ true
none_is_in seen empty [] = refl
none_is_in seen empty (name ∷ names) = rw (empty, none_is_in seen empty names) refl

-- an empty set tells no name apart
pub differ_from-empty : (seen : BTreeSet (List ℕ)) (names : List (List ℕ)) → seen.keys ≡ [] → are_different names ≡ differ_from seen names
differ_from-empty seen names empty = and-true (are_different names) ∙ ap (λ b. are_different names && b) (sym (none_is_in seen empty names))

-- the names of the set and one more
more_names : (seen more : BTreeSet (List ℕ)) (name : List ℕ) → Updates (slice_cmp nat_cmp) seen more name true → (names : List (List ℕ)) → list_all (λ other. not (has more other)) names ≡ (list_all (λ other. not (bytes_eq name other)) names && list_all (λ other. not (has seen other)) names)
more_names seen more name updates [] = refl
more_names seen more name updates (other ∷ names) =
    let is_that : has more other ≡ cond (bytes_eq name other) true (has seen other) = updates.0 other ∙ ap (λ same. cond same true (has seen other)) (is_eq-slice_cmp name other) in
    rw (is_that, more_names seen more name updates names) (new_here (bytes_eq name other) (has seen other) (list_all (λ other. not (bytes_eq name other)) names) (list_all (λ other. not (has seen other)) names))

-- a name that is not in the set comes to it
pub differ_from-more : (seen more : BTreeSet (List ℕ)) (name : List ℕ) (names : List (List ℕ)) → has seen name ≡ false → Updates (slice_cmp nat_cmp) seen more name true → differ_from seen (name ∷ names) ≡ differ_from more names
differ_from-more seen more name names new updates =
    rw (new, more_names seen more name updates names) (first_is_new (list_all (λ other. not (bytes_eq name other)) names) (are_different names) (list_all (λ other. not (has seen other)) names))

-- the names from a place on are the one there and those after it
pub drop-name : (names : List (List ℕ)) (i : ℕ) (name : List ℕ) → i < length names → name ≡ get_or names i name → drop i names ≡ name ∷ drop (i + 1) names
drop-name names i name inside is = rw (drop-cons names i name inside, ← is, add-one) refl
