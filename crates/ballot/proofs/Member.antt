-- Membership in lists, and in lists of pvalues that hold equal ones once.
use Rattle.std.proofs.Common.{◌≡◌, ◌⊎◌, ◌↔◌, ℕ, zero, suc, List, [], ◌∷◌, ◌++◌, Bool, true, false, Some, refl, sym, subst, inl, inr, ⊎_elim, cond}
use Rattle.std.specs.Prelude.{slice_get}
use Rattle.std.proofs.lemmas.Bool.{eqb-true, eq-eqb, and_parts, and_from, or_cases, true≢false}
use Rattle.ballot.specs.Lists.{IsIn}
use Rattle.ballot.specs.PValues.{same_pvalue, has_pvalue, added, joined}
use Rattle.ballot.specs.declared.pvalue.PValue.{PValue}
use Rattle.ballot.proofs.Order.{same_ballot-true, same_ballot_itself}

pub in_left : {A : Type 0} (x : A) (xs ys : List A) → IsIn x xs → IsIn x (xs ++ ys)
in_left x [] ys h = absurd h
in_left x (y ∷ xs) ys h = ⊎_elim (λ e. inl e) (λ t. inr (in_left x xs ys t)) h

pub in_right : {A : Type 0} (x : A) (xs ys : List A) → IsIn x ys → IsIn x (xs ++ ys)
in_right x [] ys h = h
in_right x (y ∷ xs) ys h = inr (in_right x xs ys h)

pub in_either : {A : Type 0} (x : A) (xs ys : List A) → IsIn x (xs ++ ys) → IsIn x xs ⊎ IsIn x ys
in_either x [] ys h = inr h
in_either x (y ∷ xs) ys h =
    ⊎_elim (λ e. inl (inl e)) (λ t. ⊎_elim (λ l. inl (inr l)) (λ r. inr r) (in_either x xs ys t)) h

pub in_last : {A : Type 0} (x : A) (xs : List A) → IsIn x (xs ++ x ∷ [])
in_last x xs = in_right x xs (x ∷ []) (inl refl)

pub in_push : {A : Type 0} (x y : A) (xs : List A) → IsIn x (xs ++ y ∷ []) → IsIn x xs ⊎ (y ≡ x)
in_push x y xs h = ⊎_elim (λ l. inl l) (λ r. ⊎_elim (λ e. inr e) (λ n. absurd n) r) (in_either x xs (y ∷ []) h)

-- what is read from a list is in it
pub in_got : {A : Type 0} (xs : List A) (k : ℕ) (x : A) → slice_get xs k ≡ Some x → IsIn x xs
in_got [] k x e = absurd (cc)
in_got (y ∷ xs) zero x e = inl (cc)
in_got (y ∷ xs) (suc k) x e = inr (in_got xs k x e)

-- eq decides equality
abbrev pub IsEquality : {C : Type 0} → (C → C → Bool) → Type 0
IsEquality {C} eq = (x y : C) → (eq x y ≡ true) ↔ (x ≡ y)

module _ {C : Type 0} (eq : C → C → Bool) (law : IsEquality eq) where
  pub same_pvalue-true : (p q : PValue C) → same_pvalue eq p q ≡ true → p ≡ q
  same_pvalue-true p q e =
      let a = and_parts _ _ e in
      let b = and_parts _ _ a.1 in
      let x = same_ballot-true p.ballot q.ballot a.0 in
      let y = eqb-true p.slot q.slot b.0 in
      let z : p.command ≡ q.command = (law p.command q.command).0 b.1 in
      λ i. record { ballot = x i; slot = y i; command = z i }

  pub same_pvalue_itself : (p : PValue C) → same_pvalue eq p p ≡ true
  same_pvalue_itself p = and_from _ _ (same_ballot_itself p.ballot) (and_from _ _ (eq-eqb p.slot p.slot refl) ((law p.command p.command).1 refl))

  pub has_pvalue-true : (p : PValue C) (qs : List (PValue C)) → has_pvalue eq p qs ≡ true → IsIn p qs
  has_pvalue-true p [] e = absurd (true≢false (sym e))
  has_pvalue-true p (q ∷ qs) e =
      ⊎_elim (λ s. inl (sym (same_pvalue-true p q s))) (λ t. inr (has_pvalue-true p qs t)) (or_cases _ _ e)

  -- what is added is there, and what was there stays
  pub added_old : (ps : List (PValue C)) (p x : PValue C) → IsIn x ps → IsIn x (added eq ps p)
  added_old ps p x h =
      go (has_pvalue eq p ps)
    where
      go : (t : Bool) → IsIn x (cond t ps (ps ++ p ∷ []))
      go true = h
      go false = in_left x ps (p ∷ []) h

  pub added_new : (ps : List (PValue C)) (p : PValue C) → IsIn p (added eq ps p)
  added_new ps p =
      go (has_pvalue eq p ps) refl
    where
      go : (t : Bool) → has_pvalue eq p ps ≡ t → IsIn p (cond t ps (ps ++ p ∷ []))
      go true e = has_pvalue-true p ps e
      go false e = in_last p ps

  pub added_cases : (ps : List (PValue C)) (p x : PValue C) → IsIn x (added eq ps p) → IsIn x ps ⊎ (p ≡ x)
  added_cases ps p x =
      go (has_pvalue eq p ps)
    where
      go : (t : Bool) → IsIn x (cond t ps (ps ++ p ∷ [])) → IsIn x ps ⊎ (p ≡ x)
      go true h = inl h
      go false h = in_push x p ps h

  -- a union holds what either list holds
  pub joined_old : (ps qs : List (PValue C)) (x : PValue C) → IsIn x ps → IsIn x (joined eq ps qs)
  joined_old ps [] x h = h
  joined_old ps (q ∷ qs) x h = joined_old (added eq ps q) qs x (added_old ps q x h)

  pub joined_new : (ps qs : List (PValue C)) (x : PValue C) → IsIn x qs → IsIn x (joined eq ps qs)
  joined_new ps [] x h = absurd h
  joined_new ps (q ∷ qs) x h =
      ⊎_elim (λ (e : q ≡ x). joined_old (added eq ps q) qs x (subst (λ y. IsIn y (added eq ps q)) e (added_new ps q))) (λ t. joined_new (added eq ps q) qs x t) h

  pub joined_cases : (ps qs : List (PValue C)) (x : PValue C) → IsIn x (joined eq ps qs) → IsIn x ps ⊎ IsIn x qs
  joined_cases ps [] x h = inl h
  joined_cases ps (q ∷ qs) x h =
      ⊎_elim
      (λ a. ⊎_elim (λ o. inl o) (λ e. inr (inl e)) (added_cases ps q x a))
      (λ b. inr (inr b))
      (joined_cases (added eq ps q) qs x h)
