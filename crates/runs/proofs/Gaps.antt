-- The slots from the first on, up to the first at which nothing stands.
use Rattle.std.proofs.Common.{◌≡◌, ◌≢◌, ℕ, zero, suc, ◌+◌, ◌-◌, ◌<◌, ◌≤◌, List, [], ◌∷◌, ◌++◌, length, Bool, true, false, refl, sym, ap, ◌∙◌, subst, ⊎_elim, arith, cond, append_assoc}
use Rattle.std.proofs.lemmas.Bool.{cases_eq, true≢false}
use Rattle.std.proofs.lemmas.List.{append-nil}
use Rattle.replica.proofs.Slots.{from_slot, from_slot_few, from_slot_falls}
use Rattle.replica.specs.Replicas.{Rules, is_decided, first_slots, has_identity, once}
use Rattle.replica.proofs.Parts.{in_slot}
use Rattle.ballot.specs.Slots.{at_slot}
use Rattle.session.specs.Prefix.{IsPrefix}
use Rattle.runs.specs.Decided.{first_gap, without_gap}

module _ {X : Type 0} where
  -- below the first gap something stands at each slot
  pub below_gap : (k s : ℕ) (es : List (ℕ × X)) (t : ℕ) → s ≤ t → t < first_gap k s es → is_decided t es ≡ true
  below_gap zero s es t low high = absurd (let l : t < s = high in omega arith)
  below_gap (suc k) s es t low high =
      go (is_decided s es) refl (λ l h. below_gap k (s + 1) es t l h) high
    where
      go : (d : Bool) → is_decided s es ≡ d → (s + 1 ≤ t → t < first_gap k (s + 1) es → is_decided t es ≡ true) → t < cond d (first_gap k (s + 1) es) s → is_decided t es ≡ true
      go false e ih h = absurd (let l : t < s = h in omega arith)
      go true e ih h =
          ⊎_elim
          (λ (q : t ≡ s). subst (λ n. is_decided n es ≡ true) (sym q) e)
          (λ (ne : t ≢ s). ih (omega arith) h)
          (cases_eq t s)

  pub gap_from : (k s : ℕ) (es : List (ℕ × X)) → s ≤ first_gap k s es
  gap_from zero s es = omega arith
  gap_from (suc k) s es =
      go (is_decided s es) (gap_from k (s + 1) es)
    where
      go : (d : Bool) → s + 1 ≤ first_gap k (s + 1) es → s ≤ cond d (first_gap k (s + 1) es) s
      go true l = omega arith
      go false l = omega arith

  -- the first gap is above all slots that have something, and all before which have
  pub above_front : (k s : ℕ) (es : List (ℕ × X)) (n : ℕ) → from_slot s es ≤ k → s ≤ n → ((t : ℕ) → s ≤ t → t < n → is_decided t es ≡ true) → n ≤ first_gap k s es
  above_front zero s es n few low all =
      ⊎_elim
      (λ (q : n ≡ s). omega arith)
      (λ (ne : n ≢ s). absurd (let some : from_slot (s + 1) es < from_slot s es = from_slot_falls s es (all s (omega arith) (omega arith)) in omega arith))
      (cases_eq n s)
  above_front (suc k) s es n few low all =
      go (is_decided s es) refl (λ f l a. above_front k (s + 1) es n f l a) (gap_from k (s + 1) es)
    where
      go : (d : Bool) → is_decided s es ≡ d → (from_slot (s + 1) es ≤ k → s + 1 ≤ n → ((t : ℕ) → s + 1 ≤ t → t < n → is_decided t es ≡ true) → n ≤ first_gap k (s + 1) es) → s + 1 ≤ first_gap k (s + 1) es →
          n ≤ cond d (first_gap k (s + 1) es) s
      go true e ih above =
          ⊎_elim
          (λ (q : n ≡ s). omega arith)
          (λ (ne : n ≢ s). let fall : from_slot (s + 1) es < from_slot s es = from_slot_falls s es e in ih (omega arith) (omega arith) (λ t l h. all t (omega arith) h))
          (cases_eq n s)
      go false e ih above =
          ⊎_elim
          (λ (q : n ≡ s). omega arith)
          (λ (ne : n ≢ s). absurd (true≢false (sym (all s (omega arith) (omega arith)) ∙ e)))
          (cases_eq n s)

  -- more slots are a longer list
  pub prefix_itself : (xs : List X) → IsPrefix xs xs
  prefix_itself xs = ([], append-nil xs)

  pub prefix_then : (xs ys zs : List X) → IsPrefix xs ys → IsPrefix ys zs → IsPrefix xs zs
  prefix_then xs ys zs a b = (a.0 ++ b.0, sym (append_assoc xs a.0 b.0) ∙ ap (λ (q : List X). q ++ b.0) a.1 ∙ b.1)

module _ {X : Type 0} where
  pub more_slots : (n m : ℕ) (es : List (ℕ × X)) → n ≤ m → IsPrefix (first_slots n es) (first_slots m es)
  more_slots n zero es l = let e : n ≡ 0 = omega arith in subst (λ k. IsPrefix (first_slots k es) (first_slots 0 es)) (sym e) (prefix_itself (first_slots 0 es))
  more_slots n (suc m) es l =
      ⊎_elim
      (λ (e : n ≡ suc m). subst (λ k. IsPrefix (first_slots k es) (first_slots (suc m) es)) (sym e) (prefix_itself (first_slots (suc m) es)))
      (λ (ne : n ≢ suc m). prefix_then (first_slots n es) (first_slots m es) (first_slots (suc m) es) (more_slots n m es (omega arith)) (in_slot (suc m) (at_slot (suc m) es), refl))
      (cases_eq n (suc m))

module _ {C I R M : Type 0} (rules : Rules C I R M) where
  pub longer_once : (before xs ys : List (ℕ × C)) → IsPrefix (once rules before xs) (once rules before (xs ++ ys))
  longer_once before [] ys = (once rules before ys, refl)
  longer_once before (x ∷ xs) ys =
      go (has_identity rules (rules.identity x.1) before) (longer_once before xs ys) (longer_once (before ++ x ∷ []) xs ys)
    where
      go : (t : Bool) → IsPrefix (once rules before xs) (once rules before (xs ++ ys)) → IsPrefix (once rules (before ++ x ∷ []) xs) (once rules (before ++ x ∷ []) (xs ++ ys)) →
          IsPrefix (cond t (once rules before xs) (x ∷ once rules (before ++ x ∷ []) xs)) (cond t (once rules before (xs ++ ys)) (x ∷ once rules (before ++ x ∷ []) (xs ++ ys)))
      go true h k = h
      go false h k = (k.0, ap (λ zs. x ∷ zs) k.1)

  pub once_prefix : (xs ys : List (ℕ × C)) → IsPrefix xs ys → IsPrefix (once rules [] xs) (once rules [] ys)
  once_prefix xs ys h = subst (λ zs. IsPrefix (once rules [] xs) (once rules [] zs)) h.1 (longer_once [] xs h.0)

  -- what stands at the slots 1 to n without a gap is among what stands up to the first gap
  pub front_first : (n : ℕ) (es : List (ℕ × C)) → 1 ≤ n → ((s : ℕ) → 1 ≤ s → s < n → is_decided s es ≡ true) → IsPrefix (once rules [] (first_slots (n - 1) es)) (once rules [] (without_gap es))
  front_first n es low all =
      let above : n ≤ first_gap (length es) 1 es = above_front (length es) 1 es n (from_slot_few 1 es) low all in
      once_prefix (first_slots (n - 1) es) (without_gap es) (more_slots (n - 1) (first_gap (length es) 1 es - 1) es (omega arith))
