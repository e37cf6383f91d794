-- What is put in place leaves the slots rising.
use Rattle.std.proofs.Common.{◌≡◌, ◌<◌, ◌≤◌, ◌+◌, ◌≢◌, ℕ, zero, suc, List, [], ◌∷◌, length, Bool, true, false, refl, sym, subst, arith, cond, eqb, ltb, map}
use Rattle.std.proofs.lemmas.Bool.{ltb-true, ltb-false, eqb-true, eqb-false}
use Rattle.std.specs.Prelude.{slice_index}
use Rattle.std.specs.List.Sorted.{IsStrictlyIncreasing}
use Rattle.ballot.specs.declared.pvalue.PValue.{PValue}
use Rattle.acceptor.specs.Acceptors.{RiseBySlot, placed}

pub rising_none : IsStrictlyIncreasing []
rising_none k l = let none : k + 1 < 0 = l in absurd (omega arith)

module _ {C : Type 0} where
  -- the first slot, if there is one, is above s
  abbrev StartsAbove : ℕ → List (PValue C) → Type 0
  StartsAbove s [] = Unit {0}
  StartsAbove s (q ∷ qs) = s < q.slot

  abbrev slots : List (PValue C) → List ℕ
  slots qs = map (λ p. p.slot) qs

  rising_more : (p : PValue C) (qs : List (PValue C)) → StartsAbove p.slot qs → RiseBySlot qs → RiseBySlot (p ∷ qs)
  rising_more p [] f h k l = let none : k + 1 < 1 = l in absurd (omega arith)
  rising_more p (q ∷ qs) f h zero l = f
  rising_more p (q ∷ qs) f h (suc k) l =
      let on : suc k + 1 ≡ suc (k + 1) = omega arith in
      let inside : suc k + 1 < suc (length (slots (q ∷ qs))) = l in
      subst (λ n. slice_index (slots (q ∷ qs)) k < slice_index (slots (p ∷ q ∷ qs)) n) (sym on) (h k (omega arith))

  rising_first : (p : PValue C) (qs : List (PValue C)) → RiseBySlot (p ∷ qs) → StartsAbove p.slot qs
  rising_first p [] h = tt
  rising_first p (q ∷ qs) h = h 0 (omega arith)

  rising_rest : (p : PValue C) (qs : List (PValue C)) → RiseBySlot (p ∷ qs) → RiseBySlot qs
  rising_rest p qs h k l =
      let on : suc k + 1 ≡ suc (k + 1) = omega arith in
      let inside : k + 1 < length (slots qs) = l in
      let further : suc k + 1 < suc (length (slots qs)) = omega arith in
      subst (λ n. slice_index (slots qs) k < slice_index (slots (p ∷ qs)) n) on (h (suc k) further)

  starts_placed : (s : ℕ) (p : PValue C) (qs : List (PValue C)) → s < p.slot → StartsAbove s qs → StartsAbove s (placed p qs)
  starts_placed s p [] l f = l
  starts_placed s p (q ∷ qs) l f =
      go (ltb p.slot q.slot) (eqb p.slot q.slot)
    where
      go : (t u : Bool) → StartsAbove s (cond t (p ∷ q ∷ qs) (cond u (p ∷ qs) (q ∷ placed p qs)))
      go true u = l
      go false true = l
      go false false = f

  pub rising_placed : (p : PValue C) (qs : List (PValue C)) → RiseBySlot qs → RiseBySlot (placed p qs)
  rising_placed p [] h = rising_more p [] tt h
  rising_placed p (q ∷ qs) h =
      go (ltb p.slot q.slot) (eqb p.slot q.slot) refl refl (rising_placed p qs (rising_rest q qs h))
    where
      go : (t u : Bool) → ltb p.slot q.slot ≡ t → eqb p.slot q.slot ≡ u → RiseBySlot (placed p qs) → RiseBySlot (cond t (p ∷ q ∷ qs) (cond u (p ∷ qs) (q ∷ placed p qs)))
      go true u a b k = rising_more p (q ∷ qs) (ltb-true p.slot q.slot a) h
      go false true a b k = rising_more p qs (subst (λ s. StartsAbove s qs) (sym (eqb-true p.slot q.slot b)) (rising_first q qs h)) (rising_rest q qs h)
      go false false a b k =
          let high : q.slot ≤ p.slot = ltb-false p.slot q.slot a in
          let other : p.slot ≢ q.slot = eqb-false p.slot q.slot b in
          rising_more q (placed p qs) (starts_placed q.slot p qs (omega (arith, other)) (rising_first q qs h)) k
