-- What is kept once a pvalue was accepted.
use Rattle.std.proofs.Common.{◌≡◌, ◌⊎◌, ℕ, List, [], ◌∷◌, Bool, true, false, Option, Some, None, refl, ap, ◌∙◌, subst, inl, inr, ⊎_elim, cond, eqb, ltb, if◌then◌else◌}
use Rattle.std.specs.Option.{option_map_or}
use Rattle.std.proofs.lemmas.Bool.{eqb-true}
use Rattle.ballot.specs.Ballots.{BallotNumber, AtMost, same_ballot}
use Rattle.ballot.specs.Lists.{IsIn}
use Rattle.ballot.specs.declared.pvalue.PValue.{PValue}
use Rattle.ballot.proofs.Order.{most_refl, most_trans, same_ballot-true}
use Rattle.acceptor.specs.Acceptors.{AcceptorState, accepts, accepted_for, placed, with_accepted, Holds, HasReached, after_p1a, after_p2a, new_acceptor, raised}
use Rattle.acceptor.proofs.Raised.{raised_above, raised_keeps, taken_reaches}

module _ {C : Type 0} where
  -- p beside what is accepted for its slot
  abbrev pub accepted_beside : Option (PValue C) → PValue C → List (PValue C) → List (PValue C)
  accepted_beside o p ps = if option_map_or (λ q. same_ballot q.ballot p.ballot) o false then ps else placed p ps

  further : (q : PValue C) (qs : List (PValue C)) (s : ℕ) (b : BallotNumber) → Holds qs s b → Holds (q ∷ qs) s b
  further q qs s b h = (h.0, inr h.1, h.2, h.3)

  itself : (p : PValue C) (ps : List (PValue C)) → IsIn p ps → Holds ps p.slot p.ballot
  itself p ps i = (p, i, refl, most_refl p.ballot)

  -- what is kept for a slot is among them, and of the slot
  pub accepted_for-found : (s : ℕ) (qs : List (PValue C)) (q : PValue C) → accepted_for s qs ≡ Some q → IsIn q qs × (q.slot ≡ s)
  accepted_for-found s [] q e = absurd (cc)
  accepted_for-found s (x ∷ qs) q e =
      go (eqb x.slot s) refl (accepted_for-found s qs q) e
    where
      go : (t : Bool) → eqb x.slot s ≡ t → (accepted_for s qs ≡ Some q → IsIn q qs × (q.slot ≡ s)) → cond t (Some x) (accepted_for s qs) ≡ Some q → IsIn q (x ∷ qs) × (q.slot ≡ s)
      go true f ih h = let is : x ≡ q = cc in (inl is, subst (λ (y : PValue C). y.slot ≡ s) is (eqb-true x.slot s f))
      go false f ih h = let r = ih h in (inr r.0, r.1)

  placed_cases : (p x : PValue C) (qs : List (PValue C)) → IsIn x (placed p qs) → IsIn x qs ⊎ (p ≡ x)
  placed_cases p x [] = λ h. ⊎_elim (λ e. inr e) (λ n. inl n) h
  placed_cases p x (q ∷ qs) =
      go (ltb p.slot q.slot) (eqb p.slot q.slot) (placed_cases p x qs)
    where
      go : (t u : Bool) → (IsIn x (placed p qs) → IsIn x qs ⊎ (p ≡ x)) → IsIn x (cond t (p ∷ q ∷ qs) (cond u (p ∷ qs) (q ∷ placed p qs))) → IsIn x (q ∷ qs) ⊎ (p ≡ x)
      go true u ih h = ⊎_elim (λ e. inr e) (λ n. inl n) h
      go false true ih h = ⊎_elim (λ e. inr e) (λ n. inl (inr n)) h
      go false false ih h = ⊎_elim (λ e. inl (inl e)) (λ n. ⊎_elim (λ a. inl (inr a)) (λ b. inr b) (ih n)) h

  placed_new : (p : PValue C) (qs : List (PValue C)) → IsIn p (placed p qs)
  placed_new p [] = inl refl
  placed_new p (q ∷ qs) =
      go (ltb p.slot q.slot) (eqb p.slot q.slot) (placed_new p qs)
    where
      go : (t u : Bool) → IsIn p (placed p qs) → IsIn p (cond t (p ∷ q ∷ qs) (cond u (p ∷ qs) (q ∷ placed p qs)))
      go true u ih = inl refl
      go false true ih = inl refl
      go false false ih = inr ih

  -- what was there is there, or it was of p's slot
  placed_old : (p x : PValue C) (qs : List (PValue C)) → IsIn x qs → IsIn x (placed p qs) ⊎ (p.slot ≡ x.slot)
  placed_old p x [] h = absurd h
  placed_old p x (q ∷ qs) h =
      go (ltb p.slot q.slot) (eqb p.slot q.slot) refl (placed_old p x qs) h
    where
      go : (t u : Bool) → eqb p.slot q.slot ≡ u → (IsIn x qs → IsIn x (placed p qs) ⊎ (p.slot ≡ x.slot)) → IsIn x (q ∷ qs) →
          IsIn x (cond t (p ∷ q ∷ qs) (cond u (p ∷ qs) (q ∷ placed p qs))) ⊎ (p.slot ≡ x.slot)
      go true u e ih i = inl (inr i)
      go false true e ih i =
          ⊎_elim (λ (is : q ≡ x). inr (eqb-true p.slot q.slot e ∙ ap (λ (y : PValue C). y.slot) is)) (λ j. inl (inr j)) i
      go false false e ih i = ⊎_elim (λ is. inl (inl is)) (λ j. ⊎_elim (λ a. inl (inr a)) (λ b. inr b) (ih j)) i

  -- what is kept is an old one or the new one
  pub kept_cases : (qs : List (PValue C)) (p x : PValue C) → IsIn x (with_accepted qs p) → IsIn x qs ⊎ (p ≡ x)
  kept_cases qs p x =
      go (accepted_for p.slot qs)
    where
      one : (t : Bool) → IsIn x (cond t qs (placed p qs)) → IsIn x qs ⊎ (p ≡ x)
      one true h = inl h
      one false h = placed_cases p x qs h

      go : (o : Option (PValue C)) → IsIn x (accepted_beside o p qs) → IsIn x qs ⊎ (p ≡ x)
      go None h = placed_cases p x qs h
      go (Some q) h = one (same_ballot q.ballot p.ballot) h

  -- the new one's slot has something at least as high
  pub kept_new : (qs : List (PValue C)) (p : PValue C) → Holds (with_accepted qs p) p.slot p.ballot
  kept_new qs p =
      go (accepted_for p.slot qs) refl
    where
      one : (q : PValue C) → accepted_for p.slot qs ≡ Some q → (t : Bool) → same_ballot q.ballot p.ballot ≡ t → Holds (cond t qs (placed p qs)) p.slot p.ballot
      one q e true s =
          let found = accepted_for-found p.slot qs q e in
          (q, found.0, found.1, subst (λ b. AtMost b q.ballot) (same_ballot-true q.ballot p.ballot s) (most_refl q.ballot))
      one q e false s = itself p (placed p qs) (placed_new p qs)

      go : (o : Option (PValue C)) → accepted_for p.slot qs ≡ o → Holds (accepted_beside o p qs) p.slot p.ballot
      go None e = itself p (placed p qs) (placed_new p qs)
      go (Some q) e = one q e (same_ballot q.ballot p.ballot) refl

  -- what was there is there, or something of its slot at least as high
  pub kept_old : (qs : List (PValue C)) (p x : PValue C) → IsIn x qs → AtMost x.ballot p.ballot → Holds (with_accepted qs p) x.slot x.ballot
  kept_old qs p x h low =
      go (accepted_for p.slot qs)
    where
      in_place : Holds (placed p qs) x.slot x.ballot
      in_place = ⊎_elim (itself x (placed p qs)) (λ at. (p, placed_new p qs, at, low)) (placed_old p x qs h)

      one : (t : Bool) → Holds (cond t qs (placed p qs)) x.slot x.ballot
      one true = itself x qs h
      one false = in_place

      go : (o : Option (PValue C)) → Holds (accepted_beside o p qs) x.slot x.ballot
      go None = in_place
      go (Some q) = one (same_ballot q.ballot p.ballot)

  -- an acceptor has reached what it keeps
  pub reached_new : HasReached {C = C} new_acceptor
  reached_new p h = absurd h

  pub reached_p1a : (a : AcceptorState C) (b : BallotNumber) → HasReached a → HasReached (after_p1a a b)
  reached_p1a a b reached p h = raised_keeps a.ballot b p.ballot (reached p h)

  pub reached_p2a : (a : AcceptorState C) (p : PValue C) → HasReached a → HasReached (after_p2a a p)
  reached_p2a a p reached x =
      go (accepts a.ballot p.ballot)
    where
      go : (t : Bool) → IsIn x (cond t (with_accepted a.accepted p) a.accepted) → AtMost x.ballot (raised a.ballot p.ballot)
      go true h =
          ⊎_elim
          (λ old. raised_keeps a.ballot p.ballot x.ballot (reached x old))
          (λ is. subst (λ (y : PValue C). AtMost y.ballot (raised a.ballot p.ballot)) is (raised_above a.ballot p.ballot))
          (kept_cases a.accepted p x h)
      go false h = raised_keeps a.ballot p.ballot x.ballot (reached x h)

  -- whatever a pvalue does, each held slot keeps something at least as high
  pub held_stays : (a : AcceptorState C) (p : PValue C) → HasReached a → (s : ℕ) (b : BallotNumber) → Holds a.accepted s b → Holds (after_p2a a p).accepted s b
  held_stays a p reached s b h =
      go (accepts a.ballot p.ballot) refl
    where
      go : (t : Bool) → accepts a.ballot p.ballot ≡ t → Holds (cond t (with_accepted a.accepted p) a.accepted) s b
      go true e =
          let x : PValue C = h.0 in
          let above = kept_old a.accepted p x h.1 (taken_reaches a.ballot p.ballot x.ballot e (reached x h.1)) in
          (above.0, above.1, above.2 ∙ h.2, most_trans b x.ballot above.0.ballot h.3 above.3)
      go false e = h

  pub taken_held : (a : AcceptorState C) (p : PValue C) → accepts a.ballot p.ballot ≡ true → Holds (after_p2a a p).accepted p.slot p.ballot
  taken_held a p e = rw e (kept_new a.accepted p)

  -- what is kept then is an old one, or the new one, which was taken
  pub accepted_cases : (a : AcceptorState C) (p x : PValue C) → IsIn x (after_p2a a p).accepted → IsIn x a.accepted ⊎ ((p ≡ x) × (accepts a.ballot p.ballot ≡ true))
  accepted_cases a p x =
      go (accepts a.ballot p.ballot)
    where
      go : (t : Bool) → IsIn x (cond t (with_accepted a.accepted p) a.accepted) → IsIn x a.accepted ⊎ ((p ≡ x) × (t ≡ true))
      go true h = ⊎_elim (λ old. inl old) (λ is. inr (is, refl)) (kept_cases a.accepted p x h)
      go false h = inl h
