-- What an adoption does to the proposals.
use Rattle.std.proofs.Common.{◌≡◌, ◌≢◌, ℕ, List, [], ◌∷◌, ◌++◌, Bool, true, false, Option, Some, None, refl, sym, ap, ◌∙◌, subst, inl, inr, ⊎_elim, cond, append_assoc, arith, ◌<◌}
use Rattle.std.specs.Prelude.{fold}
use Rattle.std.proofs.lemmas.Bool.{cases_eq}
use Rattle.std.proofs.lemmas.List.{append-nil}
use Rattle.ballot.specs.Ballots.{AtMost, below}
use Rattle.ballot.specs.Lists.{IsIn}
use Rattle.ballot.specs.declared.pvalue.PValue.{PValue}
use Rattle.ballot.proofs.Member.{in_left, in_last, in_push}
use Rattle.ballot.proofs.Order.{most_refl, most_trans, below-true, below-false, below_to_most}
use Rattle.ballot.specs.Slots.{at_slot, with_slot, Rising}
use Rattle.leader.proofs.Parts.{if_better}
use Rattle.leader.specs.Leaders.{keep_better, best_pvalues, replaced}
use Rattle.leader.specs.Calls.{HasHighest, KeepsOthers}
use Rattle.leader.proofs.Slots.{at_slot-with_slot, at_slot-with_other, rising_with, rising_found, above_apart, at_slot-among}

module _ {C : Type 0} where
  -- the highest pvalue of a slot among those seen
  abbrev Best : ℕ → List (PValue C) → Option (PValue C) → Type 0
  Best s seen None = (p : PValue C) → IsIn p seen → p.slot ≡ s → ⊥
  Best s seen (Some q) = IsIn q seen × (q.slot ≡ s) × ((p : PValue C) → IsIn p seen → p.slot ≡ s → AtMost p.ballot q.ballot)

  -- one of another slot changes nothing
  another : (s : ℕ) (seen : List (PValue C)) (p : PValue C) (o : Option (PValue C)) → p.slot ≢ s → Best s seen o → Best s (seen ++ p ∷ []) o
  another s seen p None ne h = λ q i e. ⊎_elim (λ old. h q old e) (λ (is : p ≡ q). ne (ap (λ (y : PValue C). y.slot) is ∙ e)) (in_push q p seen i)
  another s seen p (Some r) ne h = (
    in_left r seen (p ∷ []) h.0,
    h.1,
    λ q i e. ⊎_elim (λ old. h.2 q old e) (λ (is : p ≡ q). absurd (ne (ap (λ (y : PValue C). y.slot) is ∙ e))) (in_push q p seen i),
  )

  -- the first of a slot is its highest
  first : (seen : List (PValue C)) (p : PValue C) → Best p.slot seen None → Best p.slot (seen ++ p ∷ []) (Some p)
  first seen p h = (
    in_last p seen,
    refl,
    λ q i e. ⊎_elim (λ old. absurd (h q old e)) (λ (is : p ≡ q). subst (λ (y : PValue C). AtMost y.ballot p.ballot) is (most_refl p.ballot)) (in_push q p seen i),
  )

  higher : (seen : List (PValue C)) (p r : PValue C) → AtMost r.ballot p.ballot → Best p.slot seen (Some r) → Best p.slot (seen ++ p ∷ []) (Some p)
  higher seen p r up h = (
    in_last p seen,
    refl,
    λ q i e. ⊎_elim
        (λ old. most_trans q.ballot r.ballot p.ballot (h.2 q old e) up)
        (λ (is : p ≡ q). subst (λ (y : PValue C). AtMost y.ballot p.ballot) is (most_refl p.ballot))
        (in_push q p seen i),
  )

  lower : (seen : List (PValue C)) (p r : PValue C) → AtMost p.ballot r.ballot → Best p.slot seen (Some r) → Best p.slot (seen ++ p ∷ []) (Some r)
  lower seen p r down h = (
    in_left r seen (p ∷ []) h.0,
    h.1,
    λ q i e. ⊎_elim (λ old. h.2 q old e) (λ (is : p ≡ q). subst (λ (y : PValue C). AtMost y.ballot r.ballot) is down) (in_push q p seen i),
  )

  abbrev AllBest : List (ℕ × PValue C) → List (PValue C) → Type 0
  AllBest best seen = (s : ℕ) → Best s seen (at_slot s best)

  kept_better : (best : List (ℕ × PValue C)) (seen : List (PValue C)) (p : PValue C) → AllBest best seen → AllBest (keep_better best p) (seen ++ p ∷ [])
  kept_better best seen p h s =
      all (at_slot p.slot best) refl (h p.slot)
    where
      put : Best p.slot (seen ++ p ∷ []) (Some p) → Best s (seen ++ p ∷ []) (at_slot s (with_slot p.slot p best))
      put own =
          ⊎_elim
          (λ (e : p.slot ≡ s). subst (λ t. Best t (seen ++ p ∷ []) (at_slot t (with_slot p.slot p best))) e (subst (Best p.slot (seen ++ p ∷ [])) (sym (at_slot-with_slot p.slot p best)) own))
          (λ (ne : p.slot ≢ s).
          subst (Best s (seen ++ p ∷ [])) (sym (at_slot-with_other p.slot s p best (λ e. ne (sym e)))) (another s seen p (at_slot s best) ne (h s)))
          (cases_eq p.slot s)

      stay : (r : PValue C) → at_slot p.slot best ≡ Some r → Best p.slot (seen ++ p ∷ []) (Some r) → Best s (seen ++ p ∷ []) (at_slot s best)
      stay r is own =
          ⊎_elim
          (λ (e : p.slot ≡ s). subst (λ t. Best t (seen ++ p ∷ []) (at_slot t best)) e (subst (Best p.slot (seen ++ p ∷ [])) (sym is) own))
          (λ (ne : p.slot ≢ s). another s seen p (at_slot s best) ne (h s))
          (cases_eq p.slot s)

      one : (r : PValue C) → at_slot p.slot best ≡ Some r → Best p.slot seen (Some r) → (t : Bool) → below r.ballot p.ballot ≡ t →
          Best s (seen ++ p ∷ []) (at_slot s (cond t (with_slot p.slot p best) best))
      one r is own true b = put (higher seen p r (below_to_most r.ballot p.ballot (below-true r.ballot p.ballot b)) own)
      one r is own false b = stay r is (lower seen p r (below-false r.ballot p.ballot b) own)

      all : (o : Option (PValue C)) → at_slot p.slot best ≡ o → Best p.slot seen o → Best s (seen ++ p ∷ []) (at_slot s (if_better o p best))
      all None is own = put (first seen p own)
      all (Some r) is own = one r is own (below r.ballot p.ballot) refl

  best_from : (best : List (ℕ × PValue C)) (seen rest : List (PValue C)) → AllBest best seen → AllBest (fold keep_better best rest) (seen ++ rest)
  best_from best seen [] h s = subst (λ l. Best s l (at_slot s best)) (sym (append-nil seen)) (h s)
  best_from best seen (p ∷ rest) h s =
      subst (λ l. Best s l (at_slot s (fold keep_better (keep_better best p) rest))) (append_assoc seen (p ∷ []) rest)
      (best_from (keep_better best p) (seen ++ p ∷ []) rest (kept_better best seen p h) s)

  best_of_all : (ps : List (PValue C)) → AllBest (best_pvalues ps) ps
  best_of_all ps = best_from [] [] ps (λ s p i e. i)

  rising_if_better : (o : Option (PValue C)) (p : PValue C) (best : List (ℕ × PValue C)) → Rising best → Rising (if_better o p best)
  rising_if_better None p best h = rising_with p.slot p best h
  rising_if_better (Some r) p best h =
      go (below r.ballot p.ballot)
    where
      go : (t : Bool) → Rising (cond t (with_slot p.slot p best) best)
      go true = rising_with p.slot p best h
      go false = h

  rising_from : (best : List (ℕ × PValue C)) (rest : List (PValue C)) → Rising best → Rising (fold keep_better best rest)
  rising_from best [] h = h
  rising_from best (p ∷ rest) h = rising_from (keep_better best p) rest (rising_if_better (at_slot p.slot best) p best h)

  -- a slot without a best pvalue keeps its proposal
  untouched : (s : ℕ) (best : List (ℕ × PValue C)) (proposals : List (ℕ × C)) → ((e : ℕ × PValue C) → IsIn e best → s ≢ e.0) → at_slot s (replaced proposals best) ≡ at_slot s proposals
  untouched s [] proposals h = refl
  untouched s (e ∷ best) proposals h =
      untouched s best (with_slot e.0 e.1.command proposals) (λ x i. h x (inr i)) ∙ at_slot-with_other e.0 s e.1.command proposals (h e (inl refl))

  -- and one with a best pvalue has its command
  put_in : (best : List (ℕ × PValue C)) (proposals : List (ℕ × C)) (x : ℕ × PValue C) → Rising best → IsIn x best → at_slot x.0 (replaced proposals best) ≡ Some x.1.command
  put_in [] proposals x r i = absurd i
  put_in (e ∷ best) proposals x r i =
      ⊎_elim
      (λ (is : e ≡ x).
      subst (λ (y : ℕ × PValue C). at_slot y.0 (replaced (with_slot e.0 e.1.command proposals) best) ≡ Some y.1.command) is
      (untouched e.0 best (with_slot e.0 e.1.command proposals) (λ y j q. let above : e.0 < y.0 = above_apart e.0 best y r.0 j in absurd (omega arith)) ∙ at_slot-with_slot e.0 e.1.command proposals))
      (λ j. put_in best (with_slot e.0 e.1.command proposals) x r.1 j)
      i

  pub adopted_highest : (ps : List (PValue C)) (proposals : List (ℕ × C)) → HasHighest ps (replaced proposals (best_pvalues ps))
  adopted_highest ps proposals p i =
      go (at_slot p.slot (best_pvalues ps)) refl (best_of_all ps p.slot)
    where
      go : (o : Option (PValue C)) → at_slot p.slot (best_pvalues ps) ≡ o → Best p.slot ps o →
          (best : PValue C) × IsIn best ps × (best.slot ≡ p.slot) × (at_slot p.slot (replaced proposals (best_pvalues ps)) ≡ Some best.command)
          × ((q : PValue C) → IsIn q ps → q.slot ≡ p.slot → AtMost q.ballot best.ballot)
      go None is b = absurd (b p i refl)
      go (Some r) is b =
          (r, b.0, b.1, put_in (best_pvalues ps) proposals (p.slot, r) (rising_from [] ps tt) (at_slot-among p.slot r (best_pvalues ps) is), b.2)

  pub adopted_keeps : (ps : List (PValue C)) (proposals : List (ℕ × C)) → KeepsOthers ps proposals (replaced proposals (best_pvalues ps))
  adopted_keeps ps proposals s none =
      untouched s (best_pvalues ps) proposals (λ e i q.
      let found : at_slot s (best_pvalues ps) ≡ Some e.1 = subst (λ t. at_slot t (best_pvalues ps) ≡ Some e.1) (sym q) (rising_found (best_pvalues ps) e (rising_from [] ps tt) i) in
      let b : Best s ps (Some e.1) = subst (Best s ps) found (best_of_all ps s) in
      none e.1 b.0 b.1)
