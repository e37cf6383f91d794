-- The map's entries and the pvalues that they are seen as.
use Rattle.std.proofs.Common.{◌≡◌, ◌<◌, ℕ, List, [], ◌∷◌, true, false, Some, None, refl, sym, ap, subst, arith, cond, map, option_map, is_some, eqb, ltb}
use Rattle.std.specs.Map.{lookup, keys_of}
use Rattle.std.specs.BTreeMap.{insert_entry, is_at}
use Rattle.std.specs.Ordering.{MatchOrdering, match_ordering, nat_cmp, is_eq}
use Rattle.std.specs.declared.cmp.Ordering.{Ordering}
use Rattle.std.specs.declared.cmp.Ordering.TheVariants.{Less, Equal, Greater}
use Rattle.std.specs.List.Sorted.{IsStrictlySortedBy}
use Rattle.std.proofs.lemmas.Bool.{eq-eqb, ne_eqb, lt-ltb, le-ltb}
use Rattle.std.proofs.lemmas.Cmp.{ranked}
use Rattle.std.proofs.lemmas.Map.Keys.{IsStrictlyIncreasing-from_sorted}
use Rattle.ballot.specs.declared.pvalue.PValue.{PValue}
use Rattle.acceptor.specs.declared.acceptor.Accepted.{Accepted}
use Rattle.ballot.specs.Ballots.{same_ballot}
use Rattle.acceptor.specs.Acceptors.{accepted_for, placed, with_accepted, RiseBySlot}
use Rattle.acceptor.specs.Fields.{pvalue_at, pvalues_of}

module _ {C : Type 0} where
  -- what the map finds for a slot is what is kept for it
  pub accepted_for-entries : (s : ℕ) (es : List (ℕ × Accepted C)) → accepted_for s (pvalues_of es) ≡ option_map (λ v. pvalue_at (s, v)) (lookup (is_at (nat_cmp s)) es)
  accepted_for-entries s [] = refl
  accepted_for-entries s (e ∷ es) =
      go (nat_cmp s e.0) (ranked s e.0 (nat_cmp s e.0) refl) (accepted_for-entries s es)
    where
      go : (o : Ordering) → MatchOrdering o (s < e.0) (s ≡ e.0) (e.0 < s) → accepted_for s (pvalues_of es) ≡ option_map (λ v. pvalue_at (s, v)) (lookup (is_at (nat_cmp s)) es) →
          cond (eqb e.0 s) (Some (pvalue_at e)) (accepted_for s (pvalues_of es)) ≡ option_map (λ v. pvalue_at (s, v)) (cond (is_eq o) (Some e.1) (lookup (is_at (nat_cmp s)) es))
      go Less l h = let ne : e.0 ≡ s → ⊥ = omega arith in rw (ne_eqb e.0 s ne) h
      go Equal l h = rw (eq-eqb e.0 s (sym l)) (ap (λ k. Some (pvalue_at (k, e.1))) (sym l))
      go Greater l h = let ne : e.0 ≡ s → ⊥ = omega arith in rw (ne_eqb e.0 s ne) h

  -- what is put in the map is put in place
  pub placed-entries : (s : ℕ) (v : Accepted C) (es : List (ℕ × Accepted C)) → pvalues_of (insert_entry nat_cmp es s v) ≡ placed (pvalue_at (s, v)) (pvalues_of es)
  placed-entries s v [] = refl
  placed-entries s v (e ∷ es) =
      go (nat_cmp s e.0) (ranked s e.0 (nat_cmp s e.0) refl) (placed-entries s v es)
    where
      go : (o : Ordering) → MatchOrdering o (s < e.0) (s ≡ e.0) (e.0 < s) → pvalues_of (insert_entry nat_cmp es s v) ≡ placed (pvalue_at (s, v)) (pvalues_of es) →
          pvalues_of (match_ordering o ((s, v) ∷ e ∷ es) ((e.0, v) ∷ es) (e ∷ insert_entry nat_cmp es s v))
          ≡ cond (ltb s e.0) (pvalue_at (s, v) ∷ pvalue_at e ∷ pvalues_of es) (cond (eqb s e.0) (pvalue_at (s, v) ∷ pvalues_of es) (pvalue_at e ∷ placed (pvalue_at (s, v)) (pvalues_of es)))
      go Less l h = rw (lt-ltb s e.0 l) refl
      go Equal l h = rw (not_lower, eq-eqb s e.0 l) (ap (λ k. pvalue_at (k, v) ∷ pvalues_of es) (sym l))
        where
          not_lower : ltb s e.0 ≡ false
          not_lower = le-ltb s e.0 (omega arith)
      go Greater l h = let ne : s ≡ e.0 → ⊥ = omega arith in rw (le-ltb s e.0 (omega arith), ne_eqb s e.0 ne) (ap (λ qs. pvalue_at e ∷ qs) h)

  slots-keys : (es : List (ℕ × Accepted C)) → map (λ (p : PValue C). p.slot) (pvalues_of es) ≡ keys_of es
  slots-keys [] = refl
  slots-keys (e ∷ es) = ap (λ ks. e.0 ∷ ks) (slots-keys es)

  -- entries in order rise by slot
  pub rising_entries : (es : List (ℕ × Accepted C)) → IsStrictlySortedBy nat_cmp (keys_of es) → RiseBySlot (pvalues_of es)
  rising_entries es h = IsStrictlyIncreasing-from_sorted _ (subst (IsStrictlySortedBy nat_cmp) (sym (slots-keys es)) h)

  -- a pvalue of the kept one's ballot changes nothing
  pub kept_stays : (es : List (ℕ × Accepted C)) (p : PValue C) (v : Accepted C) → Some v ≡ lookup (is_at (nat_cmp p.slot)) es → same_ballot v.ballot p.ballot ≡ true →
      pvalues_of es ≡ with_accepted (pvalues_of es) p
  kept_stays es p v found same = rw (accepted_for-entries p.slot es, ← found, same) refl

  -- one of another ballot, or of a slot without one, is put in
  pub kept_over : (es : List (ℕ × Accepted C)) (p : PValue C) (v : Accepted C) → Some v ≡ lookup (is_at (nat_cmp p.slot)) es → same_ballot v.ballot p.ballot ≡ false →
      pvalues_of (insert_entry nat_cmp es p.slot (record { ballot = p.ballot; command = p.command })) ≡ with_accepted (pvalues_of es) p
  kept_over es p v found other =
      rw (accepted_for-entries p.slot es, ← found, other) (placed-entries p.slot (record { ballot = p.ballot; command = p.command }) es)

  pub kept_first : (es : List (ℕ × Accepted C)) (p : PValue C) → None ≡ lookup (is_at (nat_cmp p.slot)) es →
      pvalues_of (insert_entry nat_cmp es p.slot (record { ballot = p.ballot; command = p.command })) ≡ with_accepted (pvalues_of es) p
  kept_first es p none =
      rw (accepted_for-entries p.slot es, ← none) (placed-entries p.slot (record { ballot = p.ballot; command = p.command }) es)

  -- if the map has nothing, nothing is kept
  pub accepted_for_none : (es : List (ℕ × Accepted C)) (s : ℕ) → lookup (is_at (nat_cmp s)) es ≡ None → is_some (accepted_for s (pvalues_of es)) ≡ false
  accepted_for_none es s none = rw (accepted_for-entries s es, none) refl
