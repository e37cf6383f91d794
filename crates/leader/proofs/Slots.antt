-- Lists in slot order: what stands at a slot once one is put in.
use Rattle.std.proofs.Common.{◌≡◌, ◌≢◌, ℕ, ◌<◌, List, [], ◌∷◌, Bool, true, false, Some, IsSome, is_some, ◌⊎◌, refl, sym, ap, ◌∙◌, subst, inl, inr, ⊎_elim, arith, cond}
use Rattle.std.specs.Ordering.{MatchOrdering, match_ordering, nat_cmp, is_eq}
use Rattle.std.specs.Cmp.{nat_cmp_is}
use Rattle.std.specs.declared.cmp.Ordering.{Ordering}
use Rattle.std.specs.declared.cmp.Ordering.TheVariants.{Less, Equal, Greater}
use Rattle.std.proofs.lemmas.Bool.{cases_eq}
use Rattle.std.proofs.lemmas.Cmp.{ranked}
use Rattle.ballot.specs.Lists.{IsIn}
use Rattle.ballot.specs.Slots.{at_slot, with_slot, set_slot, without_slot, Above, Rising}

same_slot : (s : ℕ) → nat_cmp s s ≡ Equal
same_slot s = sym (nat_cmp_is s s Equal refl)

other_slot : (s t : ℕ) → t ≢ s → is_eq (nat_cmp t s) ≡ false
other_slot s t ne =
    go (nat_cmp t s) (ranked t s (nat_cmp t s) refl)
  where
    go : (o : Ordering) → MatchOrdering o (t < s) (t ≡ s) (s < t) → is_eq o ≡ false
    go Less h = refl
    go Equal h = absurd (ne h)
    go Greater h = refl

equal_slots : (s t : ℕ) → is_eq (nat_cmp s t) ≡ true → s ≡ t
equal_slots s t =
    go (nat_cmp s t) (ranked s t (nat_cmp s t) refl)
  where
    go : (o : Ordering) → MatchOrdering o (s < t) (s ≡ t) (t < s) → is_eq o ≡ true → s ≡ t
    go Less h e = absurd (cc)
    go Equal h e = h
    go Greater h e = absurd (cc)

module _ {X : Type 0} where
  -- what is put in stands there
  pub at_slot-with_slot : (s : ℕ) (x : X) (es : List (ℕ × X)) → at_slot s (with_slot s x es) ≡ Some x
  at_slot-with_slot s x [] = rw (same_slot s) refl
  at_slot-with_slot s x (e ∷ es) =
      go (nat_cmp s e.0) refl (at_slot-with_slot s x es)
    where
      go : (o : Ordering) → nat_cmp s e.0 ≡ o → at_slot s (with_slot s x es) ≡ Some x →
          at_slot s (match_ordering o ((s, x) ∷ e ∷ es) ((e.0, x) ∷ es) (e ∷ with_slot s x es)) ≡ Some x
      go Less q h = rw (same_slot s) refl
      go Equal q h = rw q refl
      go Greater q h = rw q h

  -- and what stands at other slots stays
  pub at_slot-with_other : (s t : ℕ) (x : X) (es : List (ℕ × X)) → t ≢ s → at_slot t (with_slot s x es) ≡ at_slot t es
  at_slot-with_other s t x [] ne = rw (other_slot s t ne) refl
  at_slot-with_other s t x (e ∷ es) ne =
      go (nat_cmp s e.0) (ranked s e.0 (nat_cmp s e.0) refl) (at_slot-with_other s t x es ne)
    where
      go : (o : Ordering) → MatchOrdering o (s < e.0) (s ≡ e.0) (e.0 < s) → at_slot t (with_slot s x es) ≡ at_slot t es →
          at_slot t (match_ordering o ((s, x) ∷ e ∷ es) ((e.0, x) ∷ es) (e ∷ with_slot s x es)) ≡ at_slot t (e ∷ es)
      go Less q h = rw (other_slot s t ne) refl
      go Equal q h = let no : is_eq (nat_cmp t e.0) ≡ false = other_slot e.0 t (λ p. ne (p ∙ sym q)) in rw no refl
      go Greater q h = ap (λ o. cond (is_eq (nat_cmp t e.0)) (Some e.1) o) h

  above_lower : (s t : ℕ) (es : List (ℕ × X)) → s < t → Above t es → Above s es
  above_lower s t [] l h = tt
  above_lower s t (e ∷ es) l h = let q : t < e.0 = h.0 in (omega arith, above_lower s t es l h.1)

  above_with : (s t : ℕ) (x : X) (es : List (ℕ × X)) → s < t → Above s es → Above s (with_slot t x es)
  above_with s t x [] l h = (l, tt)
  above_with s t x (e ∷ es) l h =
      go (nat_cmp t e.0) (above_with s t x es l h.1)
    where
      go : (o : Ordering) → Above s (with_slot t x es) → Above s (match_ordering o ((t, x) ∷ e ∷ es) ((e.0, x) ∷ es) (e ∷ with_slot t x es))
      go Less k = (l, h)
      go Equal k = h
      go Greater k = (h.0, k)

  pub rising_with : (s : ℕ) (x : X) (es : List (ℕ × X)) → Rising es → Rising (with_slot s x es)
  rising_with s x [] h = (tt, tt)
  rising_with s x (e ∷ es) h =
      go (nat_cmp s e.0) (ranked s e.0 (nat_cmp s e.0) refl) (rising_with s x es h.1)
    where
      go : (o : Ordering) → MatchOrdering o (s < e.0) (s ≡ e.0) (e.0 < s) → Rising (with_slot s x es) → Rising (match_ordering o ((s, x) ∷ e ∷ es) ((e.0, x) ∷ es) (e ∷ with_slot s x es))
      go Less q k = ((q, above_lower s e.0 es q h.0), h)
      go Equal q k = h
      go Greater q k = (above_with e.0 s x es q h.0, k)

  pub above_apart : (s : ℕ) (es : List (ℕ × X)) (e : ℕ × X) → Above s es → IsIn e es → s < e.0
  above_apart s [] e h i = absurd i
  above_apart s (x ∷ es) e h i = ⊎_elim (λ q. subst (λ (y : ℕ × X). s < y.0) q h.0) (λ k. above_apart s es e h.1 k) i

  -- each entry stands at its slot
  pub rising_found : (es : List (ℕ × X)) (e : ℕ × X) → Rising es → IsIn e es → at_slot e.0 es ≡ Some e.1
  rising_found [] e h i = absurd i
  rising_found (x ∷ es) e h i =
      ⊎_elim
      (λ (q : x ≡ e). subst (λ (y : ℕ × X). at_slot y.0 (x ∷ es) ≡ Some y.1) q (rw (same_slot x.0) refl))
      (λ (k : IsIn e es).
      let l : x.0 < e.0 = above_apart x.0 es e h.0 k in
      let ne : e.0 ≢ x.0 = λ p. absurd (omega arith) in
      rw (other_slot x.0 e.0 ne) (rising_found es e h.1 k))
      i

  -- what stands at a slot is among the entries
  pub at_slot-among : (s : ℕ) (x : X) (es : List (ℕ × X)) → at_slot s es ≡ Some x → IsIn (s, x) es
  at_slot-among s x [] e = absurd (cc)
  at_slot-among s x (y ∷ es) e =
      go (is_eq (nat_cmp s y.0)) refl (at_slot-among s x es) e
    where
      go : (t : Bool) → is_eq (nat_cmp s y.0) ≡ t → (at_slot s es ≡ Some x → IsIn (s, x) es) → cond t (Some y.1) (at_slot s es) ≡ Some x → IsIn (s, x) (y ∷ es)
      go true q k h = let same : y.0 ≡ s = sym (equal_slots s y.0 q) in let v : y.1 ≡ x = cc in inl (λ i. (same i, v i))
      go false q k h = inr (k h)

  -- what is put in is there, and else only what was
  pub in_with_slot : (s : ℕ) (x : X) (es : List (ℕ × X)) (y : ℕ × X) → IsIn y (with_slot s x es) → ((s, x) ≡ y) ⊎ IsIn y es
  in_with_slot s x [] y h = ⊎_elim (λ e. inl e) (λ n. absurd n) h
  in_with_slot s x (e ∷ es) y h =
      go (nat_cmp s e.0) (ranked s e.0 (nat_cmp s e.0) refl) (in_with_slot s x es y) h
    where
      go : (o : Ordering) → MatchOrdering o (s < e.0) (s ≡ e.0) (e.0 < s) → (IsIn y (with_slot s x es) → ((s, x) ≡ y) ⊎ IsIn y es) →
          IsIn y (match_ordering o ((s, x) ∷ e ∷ es) ((e.0, x) ∷ es) (e ∷ with_slot s x es)) → ((s, x) ≡ y) ⊎ IsIn y (e ∷ es)
      go Less q ih i = i
      go Equal q ih i = ⊎_elim (λ (p : (e.0, x) ≡ y). inl ((λ j. (q j, x)) ∙ p)) (λ n. inr (inr n)) i
      go Greater q ih i = ⊎_elim (λ p. inr (inl p)) (λ n. ⊎_elim (λ a. inl a) (λ b. inr (inr b)) (ih n)) i

  pub in_set_slot : (s : ℕ) (x : X) (es : List (ℕ × X)) (y : ℕ × X) → IsIn y (set_slot s x es) → ((s, x) ≡ y) ⊎ IsIn y es
  in_set_slot s x [] y h = absurd h
  in_set_slot s x (e ∷ es) y h =
      go (is_eq (nat_cmp s e.0)) refl (in_set_slot s x es y) h
    where
      go : (t : Bool) → is_eq (nat_cmp s e.0) ≡ t → (IsIn y (set_slot s x es) → ((s, x) ≡ y) ⊎ IsIn y es) → IsIn y (cond t ((e.0, x) ∷ es) (e ∷ set_slot s x es)) → ((s, x) ≡ y) ⊎ IsIn y (e ∷ es)
      go true q ih i = let same = equal_slots s e.0 q in ⊎_elim (λ (p : (e.0, x) ≡ y). inl ((λ j. (same j, x)) ∙ p)) (λ n. inr (inr n)) i
      go false q ih i = ⊎_elim (λ p. inr (inl p)) (λ n. ⊎_elim (λ a. inl a) (λ b. inr (inr b)) (ih n)) i

  -- what is written and taken out again leaves only what was
  pub in_without_set : (s : ℕ) (x : X) (es : List (ℕ × X)) (y : ℕ × X) → IsIn y (without_slot s (set_slot s x es)) → IsIn y es
  in_without_set s x [] y h = absurd h
  in_without_set s x (e ∷ es) y h =
      go (is_eq (nat_cmp s e.0)) refl (in_without_set s x es y) h
    where
      go : (t : Bool) → is_eq (nat_cmp s e.0) ≡ t → (IsIn y (without_slot s (set_slot s x es)) → IsIn y es) → IsIn y (without_slot s (cond t ((e.0, x) ∷ es) (e ∷ set_slot s x es))) → IsIn y (e ∷ es)
      go true q ih i = inr (subst (λ t. IsIn y (cond t es ((e.0, x) ∷ without_slot s es))) q i)
      go false q ih i = ⊎_elim (λ p. inl p) (λ n. inr (ih n)) (subst (λ t. IsIn y (cond t (set_slot s x es) (e ∷ without_slot s (set_slot s x es)))) q i)

  -- a slot that has something keeps something
  pub some_with_slot : (s t : ℕ) (x : X) (es : List (ℕ × X)) → IsSome (at_slot t es) → IsSome (at_slot t (with_slot s x es))
  some_with_slot s t x es h =
      ⊎_elim
      (λ (e : t ≡ s). ap is_some (subst (λ k. at_slot k (with_slot s x es) ≡ Some x) (sym e) (at_slot-with_slot s x es)))
      (λ (ne : t ≢ s). ap is_some (at_slot-with_other s t x es ne) ∙ h)
      (cases_eq t s)

  -- what is written or taken out leaves the slots rising
  above_set : (s t : ℕ) (x : X) (es : List (ℕ × X)) → Above t es → Above t (set_slot s x es)
  above_set s t x [] h = tt
  above_set s t x (e ∷ es) h =
      go (is_eq (nat_cmp s e.0)) (above_set s t x es h.1)
    where
      go : (u : Bool) → Above t (set_slot s x es) → Above t (cond u ((e.0, x) ∷ es) (e ∷ set_slot s x es))
      go true k = h
      go false k = (h.0, k)

  pub rising_set : (s : ℕ) (x : X) (es : List (ℕ × X)) → Rising es → Rising (set_slot s x es)
  rising_set s x [] h = tt
  rising_set s x (e ∷ es) h =
      go (is_eq (nat_cmp s e.0)) (rising_set s x es h.1)
    where
      go : (u : Bool) → Rising (set_slot s x es) → Rising (cond u ((e.0, x) ∷ es) (e ∷ set_slot s x es))
      go true k = h
      go false k = (above_set s e.0 x es h.0, k)

  above_without : (s t : ℕ) (es : List (ℕ × X)) → Above t es → Above t (without_slot s es)
  above_without s t [] h = tt
  above_without s t (e ∷ es) h =
      go (is_eq (nat_cmp s e.0)) (above_without s t es h.1)
    where
      go : (u : Bool) → Above t (without_slot s es) → Above t (cond u es (e ∷ without_slot s es))
      go true k = h.1
      go false k = (h.0, k)

  pub rising_without : (s : ℕ) (es : List (ℕ × X)) → Rising es → Rising (without_slot s es)
  rising_without s [] h = tt
  rising_without s (e ∷ es) h =
      go (is_eq (nat_cmp s e.0)) (rising_without s es h.1)
    where
      go : (u : Bool) → Rising (without_slot s es) → Rising (cond u es (e ∷ without_slot s es))
      go true k = h.1
      go false k = (above_without s e.0 es h.0, k)
