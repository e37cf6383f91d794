-- Lists by identity, whose order is total.
use Rattle.std.proofs.Common.{◌≡◌, ℕ, List, [], ◌∷◌, Bool, true, false, Option, Some, None, option_map, refl, sym, ap, ◌∙◌, cond}
use Rattle.std.specs.Map.{lookup, set_value, remove_entry}
use Rattle.std.specs.BTreeMap.{insert_entry, is_at}
use Rattle.std.specs.Cmp.{IsTotalOrder}
use Rattle.std.specs.Ordering.{match_ordering, is_eq, ordering_reverse}
use Rattle.std.specs.declared.cmp.Ordering.{Ordering}
use Rattle.std.specs.declared.cmp.Ordering.TheVariants.{Less, Equal, Greater}
use Rattle.std.proofs.lemmas.Bool.{true≢false}
use Rattle.std.proofs.lemmas.Cmp.{alike_right, eq_by_cmp_equiv}
use Rattle.replica.specs.Replicas.{Rules, has_identity}
use Rattle.replica.specs.Calls.{AreAbove, Ascend}

pub equal_is : (o : Ordering) → is_eq o ≡ true → o ≡ Equal
equal_is Less h = absurd (true≢false (sym h))
equal_is Equal h = refl
equal_is Greater h = absurd (true≢false (sym h))

module _ {I : Type 0} {compare : I → I → Ordering} (total : IsTotalOrder compare) where
  back : (i j : I) → is_eq (compare i j) ≡ is_eq (compare j i)
  back i j = (eq_by_cmp_equiv total).symm i j

  -- if k and e are equal, q is equal to one as to the other
  alike : (k e q : I) → compare k e ≡ Equal → is_eq (compare q e) ≡ is_eq (compare k q)
  alike k e q h = ap is_eq (sym (alike_right total k e q h)) ∙ back q k

  -- q isn't equal to both, if these are not equal
  apart : (k e q : I) → is_eq (compare k e) ≡ false → is_eq (compare q e) ≡ true → is_eq (compare k q) ≡ false
  apart k e q other same =
      go (is_eq (compare k q)) refl
    where
      go : (t : Bool) → is_eq (compare k q) ≡ t → t ≡ false
      go false h = refl
      go true h = let both : compare k e ≡ compare q e = total.congr k q e (equal_is (compare k q) h) in absurd (true≢false (sym same ∙ (ap is_eq (sym both) ∙ other)))

module _ {I X : Type 0} {compare : I → I → Ordering} (total : IsTotalOrder compare) where
  -- what is found for an identity is found for an equal one
  pub lookup_same : (i j : I) (es : List (I × X)) → is_eq (compare i j) ≡ true → lookup (is_at (compare j)) es ≡ lookup (is_at (compare i)) es
  lookup_same i j [] h = refl
  lookup_same i j (e ∷ es) h =
      let same : compare i e.0 ≡ compare j e.0 = total.congr i j e.0 (equal_is (compare i j) h) in
      rw (same, lookup_same i j es h) refl

  -- what is put in is found for each equal identity, and the others find what they found
  pub lookup_inserted : (k q : I) (v : X) (es : List (I × X)) → lookup (is_at (compare q)) (insert_entry compare es k v) ≡ cond (is_eq (compare k q)) (Some v) (lookup (is_at (compare q)) es)
  lookup_inserted k q v [] = rw (back total q k) refl
  lookup_inserted k q v (e ∷ es) =
      go (compare k e.0) refl (lookup_inserted k q v es)
    where
      rest : Option X
      rest = lookup (is_at (compare q)) es

      twice : (t : Bool) → cond t (Some v) rest ≡ cond t (Some v) (cond t (Some e.1) rest)
      twice true = refl
      twice false = refl

      either_way : (t u : Bool) → (t ≡ true → u ≡ false) → cond t (Some e.1) (cond u (Some v) rest) ≡ cond u (Some v) (cond t (Some e.1) rest)
      either_way true true h = absurd (true≢false (h refl))
      either_way true false h = refl
      either_way false u h = refl

      go : (o : Ordering) → compare k e.0 ≡ o → lookup (is_at (compare q)) (insert_entry compare es k v) ≡ cond (is_eq (compare k q)) (Some v) rest →
          lookup (is_at (compare q)) (match_ordering o ((k, v) ∷ e ∷ es) ((e.0, v) ∷ es) (e ∷ insert_entry compare es k v))
          ≡ cond (is_eq (compare k q)) (Some v) (cond (is_eq (compare q e.0)) (Some e.1) rest)
      go Less h ih = rw (back total q k) refl
      go Equal h ih = rw (alike total k e.0 q h) (twice (is_eq (compare k q)))
      go Greater h ih = rw ih (either_way (is_eq (compare q e.0)) (is_eq (compare k q)) (apart total k e.0 q (ap is_eq h)))

  -- what is written is found for each equal identity that found something
  pub lookup_set : (k q : I) (w : X) (es : List (I × X)) → lookup (is_at (compare q)) (set_value (is_at (compare k)) es w) ≡ cond (is_eq (compare k q)) (option_map (λ _. w) (lookup (is_at (compare q)) es)) (lookup (is_at (compare q)) es)
  lookup_set k q w [] =
      go (is_eq (compare k q)) None
    where
      go : (t : Bool) (o : Option X) → o ≡ cond t o o
      go true o = refl
      go false o = refl
  lookup_set k q w (e ∷ es) =
      go (is_eq (compare k e.0)) refl (lookup_set k q w es)
    where
      rest : Option X
      rest = lookup (is_at (compare q)) es

      once_written : (t : Bool) → cond t (Some w) rest ≡ cond t (option_map (λ _. w) (cond t (Some e.1) rest)) (cond t (Some e.1) rest)
      once_written true = refl
      once_written false = refl

      passed : (t u : Bool) → (t ≡ true → u ≡ false) → cond t (Some e.1) (cond u (option_map (λ _. w) rest) rest) ≡ cond u (option_map (λ _. w) (cond t (Some e.1) rest)) (cond t (Some e.1) rest)
      passed true true h = absurd (true≢false (h refl))
      passed true false h = refl
      passed false u h = refl

      go : (t : Bool) → is_eq (compare k e.0) ≡ t → lookup (is_at (compare q)) (set_value (is_at (compare k)) es w) ≡ cond (is_eq (compare k q)) (option_map (λ _. w) rest) rest →
          lookup (is_at (compare q)) (cond t ((e.0, w) ∷ es) (e ∷ set_value (is_at (compare k)) es w))
          ≡ cond (is_eq (compare k q)) (option_map (λ _. w) (cond (is_eq (compare q e.0)) (Some e.1) rest)) (cond (is_eq (compare q e.0)) (Some e.1) rest)
      go true h ih = rw (alike total k e.0 q (equal_is (compare k e.0) h)) (once_written (is_eq (compare k q)))
      go false h ih = rw ih (passed (is_eq (compare q e.0)) (is_eq (compare k q)) (apart total k e.0 q h))

module _ {C I R M : Type 0} (rules : Rules C I R M) (total : IsTotalOrder rules.compare) where
  -- equal identities are among the same commands
  pub has_same : (i j : I) (ps : List (ℕ × C)) → is_eq (rules.compare i j) ≡ true → has_identity rules j ps ≡ has_identity rules i ps
  has_same i j [] h = refl
  has_same i j (p ∷ ps) h =
      let same : rules.compare (rules.identity p.1) i ≡ rules.compare (rules.identity p.1) j = alike_right total i j (rules.identity p.1) (equal_is (rules.compare i j) h) in
      rw (same, has_same i j ps h) refl

  -- ascending lists
  above_lower : (i j : I) (es : List (I × Option R)) → rules.compare i j ≡ Less → AreAbove rules j es → AreAbove rules i es
  above_lower i j [] l h = tt
  above_lower i j (e ∷ es) l h = (total.trans i j e.0 l h.0, above_lower i j es l h.1)

  above_inserted : (i k : I) (v : Option R) (es : List (I × Option R)) → rules.compare i k ≡ Less → AreAbove rules i es → AreAbove rules i (insert_entry rules.compare es k v)
  above_inserted i k v [] l h = (l, tt)
  above_inserted i k v (e ∷ es) l h =
      go (rules.compare k e.0) (above_inserted i k v es l h.1)
    where
      go : (o : Ordering) → AreAbove rules i (insert_entry rules.compare es k v) → AreAbove rules i (match_ordering o ((k, v) ∷ e ∷ es) ((e.0, v) ∷ es) (e ∷ insert_entry rules.compare es k v))
      go Less g = (l, h)
      go Equal g = h
      go Greater g = (h.0, g)

  pub ascend_inserted : (k : I) (v : Option R) (es : List (I × Option R)) → Ascend rules es → Ascend rules (insert_entry rules.compare es k v)
  ascend_inserted k v [] h = (tt, tt)
  ascend_inserted k v (e ∷ es) h =
      go (rules.compare k e.0) refl (ascend_inserted k v es h.1)
    where
      go : (o : Ordering) → rules.compare k e.0 ≡ o → Ascend rules (insert_entry rules.compare es k v) → Ascend rules (match_ordering o ((k, v) ∷ e ∷ es) ((e.0, v) ∷ es) (e ∷ insert_entry rules.compare es k v))
      go Less q g = ((q, above_lower k e.0 es q h.0), h)
      go Equal q g = h
      go Greater q g = let low : rules.compare e.0 k ≡ Less = total.antisymm e.0 k ∙ ap ordering_reverse q in (above_inserted e.0 k v es low h.0, g)

  above_set : (i k : I) (w : Option R) (es : List (I × Option R)) → AreAbove rules i es → AreAbove rules i (set_value (is_at (rules.compare k)) es w)
  above_set i k w [] h = tt
  above_set i k w (e ∷ es) h =
      go (is_eq (rules.compare k e.0)) (above_set i k w es h.1)
    where
      go : (t : Bool) → AreAbove rules i (set_value (is_at (rules.compare k)) es w) → AreAbove rules i (cond t ((e.0, w) ∷ es) (e ∷ set_value (is_at (rules.compare k)) es w))
      go true g = h
      go false g = (h.0, g)

  pub ascend_set : (k : I) (w : Option R) (es : List (I × Option R)) → Ascend rules es → Ascend rules (set_value (is_at (rules.compare k)) es w)
  ascend_set k w [] h = tt
  ascend_set k w (e ∷ es) h =
      go (is_eq (rules.compare k e.0)) (ascend_set k w es h.1)
    where
      go : (t : Bool) → Ascend rules (set_value (is_at (rules.compare k)) es w) → Ascend rules (cond t ((e.0, w) ∷ es) (e ∷ set_value (is_at (rules.compare k)) es w))
      go true g = h
      go false g = (above_set e.0 k w es h.0, g)

  above_removed : (i k : I) (es : List (I × Option R)) → AreAbove rules i es → AreAbove rules i (remove_entry (is_at (rules.compare k)) es)
  above_removed i k [] h = tt
  above_removed i k (e ∷ es) h =
      go (is_eq (rules.compare k e.0)) (above_removed i k es h.1)
    where
      go : (t : Bool) → AreAbove rules i (remove_entry (is_at (rules.compare k)) es) → AreAbove rules i (cond t es (e ∷ remove_entry (is_at (rules.compare k)) es))
      go true g = h.1
      go false g = (h.0, g)

  pub ascend_removed : (k : I) (es : List (I × Option R)) → Ascend rules es → Ascend rules (remove_entry (is_at (rules.compare k)) es)
  ascend_removed k [] h = tt
  ascend_removed k (e ∷ es) h =
      go (is_eq (rules.compare k e.0)) (ascend_removed k es h.1)
    where
      go : (t : Bool) → Ascend rules (remove_entry (is_at (rules.compare k)) es) → Ascend rules (cond t es (e ∷ remove_entry (is_at (rules.compare k)) es))
      go true g = h.1
      go false g = (above_removed e.0 k es h.0, g)

  -- nothing is found for what is below all
  pub none_found : (q e : I) (es : List (I × Option R)) → rules.compare q e ≡ Equal → AreAbove rules e es → lookup (is_at (rules.compare q)) es ≡ None
  none_found q e [] same h = refl
  none_found q e (x ∷ es) same h =
      let below : rules.compare q x.0 ≡ Less = total.congr q e x.0 same ∙ h.0 in
      rw (below, none_found q e es same h.1) refl

  -- what is taken out is found no more, and the others find what they found
  pub lookup_removed : (k q : I) (es : List (I × Option R)) → Ascend rules es → lookup (is_at (rules.compare q)) (remove_entry (is_at (rules.compare k)) es) ≡ cond (is_eq (rules.compare k q)) None (lookup (is_at (rules.compare q)) es)
  lookup_removed k q [] h =
      go (is_eq (rules.compare k q)) None
    where
      go : (t : Bool) (o : Option (Option R)) → o ≡ cond t o o
      go true o = refl
      go false o = refl
  lookup_removed k q (e ∷ es) h =
      go (is_eq (rules.compare k e.0)) refl (lookup_removed k q es h.1)
    where
      rest : Option (Option R)
      rest = lookup (is_at (rules.compare q)) es

      gone : (t : Bool) → is_eq (rules.compare q e.0) ≡ t → rest ≡ cond t None (cond t (Some e.1) rest)
      gone true s = none_found q e.0 es (equal_is (rules.compare q e.0) s) h.0
      gone false s = refl

      passed : (t u : Bool) → (t ≡ true → u ≡ false) → cond t (Some e.1) (cond u None rest) ≡ cond u None (cond t (Some e.1) rest)
      passed true true h = absurd (true≢false (h refl))
      passed true false h = refl
      passed false u h = refl

      go : (t : Bool) → is_eq (rules.compare k e.0) ≡ t → lookup (is_at (rules.compare q)) (remove_entry (is_at (rules.compare k)) es) ≡ cond (is_eq (rules.compare k q)) None rest →
          lookup (is_at (rules.compare q)) (cond t es (e ∷ remove_entry (is_at (rules.compare k)) es))
          ≡ cond (is_eq (rules.compare k q)) None (cond (is_eq (rules.compare q e.0)) (Some e.1) rest)
      go true s ih = rw (← alike total k e.0 q (equal_is (rules.compare k e.0) s)) (gone (is_eq (rules.compare q e.0)) refl)
      go false s ih = rw ih (passed (is_eq (rules.compare q e.0)) (is_eq (rules.compare k q)) (apart total k e.0 q s))

-- if nothing is found nothing is written
pub set_none : {K X : Type 0} (test : K → Bool) (es : List (K × X)) (w : X) → lookup test es ≡ None → set_value test es w ≡ es
set_none test [] w h = refl
set_none test (e ∷ es) w h =
    go (test e.0) (set_none test es w) h
  where
    go : (t : Bool) → (lookup test es ≡ None → set_value test es w ≡ es) → cond t (Some e.1) (lookup test es) ≡ None → cond t ((e.0, w) ∷ es) (e ∷ set_value test es w) ≡ e ∷ es
    go true k n = absurd (cc)
    go false k n = ap (λ rest. e ∷ rest) (k n)
