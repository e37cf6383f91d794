-- Lists of what stands at slots.
use Rattle.std.proofs.Common.{◌≡◌, ◌≢◌, ℕ, zero, suc, ◌+◌, ◌<◌, ◌≤◌, List, [], ◌∷◌, ◌++◌, length, Bool, true, false, Option, Some, None, is_some, refl, sym, ap, ◌∙◌, subst, ⊎_elim, arith, cond, ltb}
use Rattle.std.specs.Ordering.{MatchOrdering, match_ordering, nat_cmp, is_eq}
use Rattle.std.specs.Cmp.{nat_cmp_is}
use Rattle.std.specs.declared.cmp.Ordering.{Ordering}
use Rattle.std.specs.declared.cmp.Ordering.TheVariants.{Less, Equal, Greater}
use Rattle.std.proofs.lemmas.Bool.{cases_eq, ltb-true, ltb-false, true≢false}
use Rattle.std.proofs.lemmas.Cmp.{ranked}
use Rattle.ballot.specs.declared.slot.TheConstants.{LAST_SLOT}
use Rattle.replica.specs.Replicas.{is_decided, first_slots, AreSlots}
use Rattle.ballot.specs.Slots.{at_slot, with_slot}
use Rattle.replica.specs.Parts.{with_decided}

pub same_slot : (s : ℕ) → nat_cmp s s ≡ Equal
same_slot s = sym (nat_cmp_is s s Equal refl)

pub other_slot : (s t : ℕ) → t ≢ s → is_eq (nat_cmp t s) ≡ false
other_slot s t ne =
    go (nat_cmp t s) (ranked t s (nat_cmp t s) refl)
  where
    go : (o : Ordering) → MatchOrdering o (t < s) (t ≡ s) (s < t) → is_eq o ≡ false
    go Less h = refl
    go Equal h = absurd (ne h)
    go Greater h = refl

pub equal_slots : (s t : ℕ) → is_eq (nat_cmp s t) ≡ true → s ≡ t
equal_slots s t =
    go (nat_cmp s t) (ranked s t (nat_cmp s t) refl)
  where
    go : (o : Ordering) → MatchOrdering o (s < t) (s ≡ t) (t < s) → is_eq o ≡ true → s ≡ t
    go Less h e = absurd (cc)
    go Equal h e = h
    go Greater h e = absurd (cc)

-- the first of both that is there
abbrev pub either : {X : Type 0} → Option X → Option X → Option X
either None o = o
either (Some x) o = Some x

pub either_none : {X : Type 0} (o : Option X) → either o None ≡ o
either_none None = refl
either_none (Some x) = refl

pub none_is : {X : Type 0} (o : Option X) → is_some o ≡ false → o ≡ None
none_is None h = refl
none_is (Some x) h = absurd (true≢false h)

module _ {X : Type 0} where
  -- what is put in stands there
  pub at_slot-with_slot : (s : ℕ) (x : X) (es : List (ℕ × X)) → at_slot s (with_slot s x es) ≡ Some x
  at_slot-with_slot s x [] = rw (same_slot s) refl
  at_slot-with_slot s x (e ∷ es) =
      go (nat_cmp s e.0) refl (at_slot-with_slot s x es)
    where
      go : (o : Ordering) → nat_cmp s e.0 ≡ o → at_slot s (with_slot s x es) ≡ Some x →
          at_slot s (match_ordering o ((s, x) ∷ e ∷ es) ((e.0, x) ∷ es) (e ∷ with_slot s x es)) ≡ Some x
      go Less q h = rw (same_slot s) refl
      go Equal q h = rw q refl
      go Greater q h = rw q h

  -- and what stands at other slots stays
  pub at_slot-with_other : (s t : ℕ) (x : X) (es : List (ℕ × X)) → t ≢ s → at_slot t (with_slot s x es) ≡ at_slot t es
  at_slot-with_other s t x [] ne = rw (other_slot s t ne) refl
  at_slot-with_other s t x (e ∷ es) ne =
      go (nat_cmp s e.0) (ranked s e.0 (nat_cmp s e.0) refl) (at_slot-with_other s t x es ne)
    where
      go : (o : Ordering) → MatchOrdering o (s < e.0) (s ≡ e.0) (e.0 < s) → at_slot t (with_slot s x es) ≡ at_slot t es →
          at_slot t (match_ordering o ((s, x) ∷ e ∷ es) ((e.0, x) ∷ es) (e ∷ with_slot s x es)) ≡ at_slot t (e ∷ es)
      go Less q h = rw (other_slot s t ne) refl
      go Equal q h = let no : is_eq (nat_cmp t e.0) ≡ false = other_slot e.0 t (λ p. ne (p ∙ sym q)) in rw no refl
      go Greater q h = ap (λ o. cond (is_eq (nat_cmp t e.0)) (Some e.1) o) h

  pub at_slot-append : (t : ℕ) (es fs : List (ℕ × X)) → at_slot t (es ++ fs) ≡ either (at_slot t es) (at_slot t fs)
  at_slot-append t [] fs = refl
  at_slot-append t (e ∷ es) fs =
      go (is_eq (nat_cmp t e.0)) (at_slot-append t es fs)
    where
      go : (b : Bool) → at_slot t (es ++ fs) ≡ either (at_slot t es) (at_slot t fs) → cond b (Some e.1) (at_slot t (es ++ fs)) ≡ either (cond b (Some e.1) (at_slot t es)) (at_slot t fs)
      go true h = refl
      go false h = h

  -- what is kept stands at each slot as if it were given last
  pub at_slot-kept : (s t : ℕ) (x : X) (es : List (ℕ × X)) → at_slot t (with_decided s x es) ≡ either (at_slot t es) (at_slot t ((s, x) ∷ []))
  at_slot-kept s t x es =
      ⊎_elim (λ (e : t ≡ s). at_its (at_slot s es) refl e) (λ (ne : t ≢ s). other (is_decided s es) ne) (cases_eq t s)
    where
      at_its : (o : Option X) → at_slot s es ≡ o → t ≡ s → at_slot t (cond (is_some o) es (with_slot s x es)) ≡ either (at_slot t es) (at_slot t ((s, x) ∷ []))
      at_its None q e = rw (e, q, same_slot s) (at_slot-with_slot s x es)
      at_its (Some y) q e = rw (e, q) refl

      other : (b : Bool) → t ≢ s → at_slot t (cond b es (with_slot s x es)) ≡ either (at_slot t es) (at_slot t ((s, x) ∷ []))
      other true ne = rw (other_slot s t ne) (sym (either_none (at_slot t es)))
      other false ne = rw (other_slot s t ne) (at_slot-with_other s t x es ne ∙ sym (either_none (at_slot t es)))

  pub kept_same : (s : ℕ) (x : X) (es : List (ℕ × X)) → is_decided s es ≡ true → with_decided s x es ≡ es
  kept_same s x es h = rw h refl

  -- what is decided stays
  pub decided_stays : (s t : ℕ) (x : X) (es : List (ℕ × X)) → is_decided t es ≡ true → at_slot t (with_decided s x es) ≡ at_slot t es
  decided_stays s t x es h =
      at_slot-kept s t x es ∙ go (at_slot t es) h
    where
      go : (o : Option X) → is_some o ≡ true → either o (at_slot t ((s, x) ∷ [])) ≡ o
      go None h = absurd (true≢false (sym h))
      go (Some y) h = refl

  -- slots stay slots
  pub slots_kept : (s : ℕ) (x : X) (es : List (ℕ × X)) → s ≤ LAST_SLOT → AreSlots es → AreSlots (with_decided s x es)
  slots_kept s x es low slots t h =
      ⊎_elim
      (λ (e : t ≡ s). subst (λ n. n ≤ LAST_SLOT) (sym e) low)
      (λ (ne : t ≢ s).
      let same : at_slot t (with_decided s x es) ≡ at_slot t es = at_slot-kept s t x es ∙ rw (other_slot s t ne) (either_none (at_slot t es)) in
      slots t (subst (λ (o : Option X). is_some o ≡ true) same h))
      (cases_eq t s)

  -- above the last slot nothing stands
  pub none_above : (s : ℕ) (es : List (ℕ × X)) → AreSlots es → LAST_SLOT < s → at_slot s es ≡ None
  none_above s es slots high =
      go (at_slot s es) refl
    where
      go : (o : Option X) → at_slot s es ≡ o → o ≡ None
      go None q = refl
      go (Some x) q = absurd (let low : s ≤ LAST_SLOT = slots s (rw q refl) in omega (arith, low, high))

  -- lists with the same at each slot up to n have the same first n
  pub first_slots-same : (n : ℕ) (es fs : List (ℕ × X)) → ((s : ℕ) → 1 ≤ s → s ≤ n → at_slot s es ≡ at_slot s fs) → first_slots n es ≡ first_slots n fs
  first_slots-same zero es fs h = refl
  first_slots-same (suc n) es fs h =
      let before = first_slots-same n es fs (λ s low high. h s low (omega (arith, high))) in
      let last : at_slot (suc n) es ≡ at_slot (suc n) fs = h (suc n) (omega arith) (omega arith) in
      rw (before, last) refl

-- how many stand at a slot or above
abbrev counts : ℕ → ℕ → ℕ
counts s n = cond (ltb n s) 0 1

counts_less : (s n : ℕ) → counts (s + 1) n ≤ counts s n
counts_less s n =
    go (ltb n s) (ltb n (s + 1)) refl refl
  where
    go : (t u : Bool) → ltb n s ≡ t → ltb n (s + 1) ≡ u → cond u 0 1 ≤ cond t 0 1
    go true true p q = omega arith
    go true false p q = absurd (let a : n < s = ltb-true n s p in let b : s + 1 ≤ n = ltb-false n (s + 1) q in omega (arith, a, b))
    go false true p q = omega arith
    go false false p q = omega arith

counts_itself : (s : ℕ) → counts (s + 1) s < counts s s
counts_itself s =
    go (ltb s s) (ltb s (s + 1)) refl refl
  where
    go : (t u : Bool) → ltb s s ≡ t → ltb s (s + 1) ≡ u → cond u 0 1 < cond t 0 1
    go true u p q = absurd (let a : s < s = ltb-true s s p in omega (arith, a))
    go false true p q = omega arith
    go false false p q = absurd (let b : s + 1 ≤ s = ltb-false s (s + 1) q in omega (arith, b))

module _ {X : Type 0} where
  abbrev pub from_slot : ℕ → List (ℕ × X) → ℕ
  from_slot s [] = 0
  from_slot s (e ∷ es) = counts s e.0 + from_slot s es

  pub from_slot_few : (s : ℕ) (es : List (ℕ × X)) → from_slot s es ≤ length es
  from_slot_few s [] = omega arith
  from_slot_few s (e ∷ es) =
      go (ltb e.0 s) (from_slot_few s es)
    where
      go : (t : Bool) → from_slot s es ≤ length es → cond t 0 1 + from_slot s es ≤ length (e ∷ es)
      go true h = let more : from_slot s es ≤ length es = h in omega (arith, more)
      go false h = let more : from_slot s es ≤ length es = h in omega (arith, more)

  pub from_slot_none : (s : ℕ) (es : List (ℕ × X)) → from_slot s es ≡ 0 → at_slot s es ≡ None
  from_slot_none s [] h = refl
  from_slot_none s (e ∷ es) h =
      go (ltb e.0 s) refl (from_slot_none s es) h
    where
      go : (t : Bool) → ltb e.0 s ≡ t → (from_slot s es ≡ 0 → at_slot s es ≡ None) → cond t 0 1 + from_slot s es ≡ 0 → at_slot s (e ∷ es) ≡ None
      go true q k h =
          let low : e.0 < s = ltb-true e.0 s q in
          let none : 0 + from_slot s es ≡ 0 = h in
          let ne : s ≢ e.0 = λ p. absurd (omega (arith, p, low)) in
          rw (other_slot e.0 s ne) (k (omega (arith, none)))
      go false q k h = absurd (let some : 1 + from_slot s es ≡ 0 = h in omega (arith, some))

  from_slot_less : (s : ℕ) (es : List (ℕ × X)) → from_slot (s + 1) es ≤ from_slot s es
  from_slot_less s [] = omega arith
  from_slot_less s (e ∷ es) = let a = counts_less s e.0 in let b = from_slot_less s es in omega (arith, a, b)

  pub from_slot_falls : (s : ℕ) (es : List (ℕ × X)) → is_decided s es ≡ true → from_slot (s + 1) es < from_slot s es
  from_slot_falls s [] h = absurd (true≢false (sym h))
  from_slot_falls s (e ∷ es) h =
      go (is_eq (nat_cmp s e.0)) refl (from_slot_falls s es) h
    where
      go : (t : Bool) → is_eq (nat_cmp s e.0) ≡ t → (is_decided s es ≡ true → from_slot (s + 1) es < from_slot s es) → is_some (cond t (Some e.1) (at_slot s es)) ≡ true → from_slot (s + 1) (e ∷ es) < from_slot s (e ∷ es)
      go true q k h =
          let same : s ≡ e.0 = equal_slots s e.0 q in
          let a : counts (s + 1) e.0 < counts s e.0 = subst (λ n. counts (s + 1) n < counts s n) same (counts_itself s) in
          let b = from_slot_less s es in
          omega (arith, a, b)
      go false q k h =
          let a = counts_less s e.0 in
          let b : from_slot (s + 1) es < from_slot s es = k h in
          omega (arith, a, b)
