-- The index of a union, as pvalues come and go.
use Rattle.std.proofs.Common.{◌≡◌, ℕ, List, [], ◌∷◌, ◌++◌, Bool, true, false, Option, Some, None, Result, Ok, Err, OnOk, OnErr, IsSome, is_some, refl, sym, ap, ◌∙◌, subst, ⊎_elim, cond, take, drop}
use Rattle.std.proofs.lemmas.Bool.{true≢false}
use Rattle.std.proofs.lemmas.List.{take-append-drop}
use Rattle.ballot.specs.Ballots.{BallotNumber}
use Rattle.ballot.specs.Lists.{IsIn}
use Rattle.ballot.specs.PValues.{has_pvalue}
use Rattle.ballot.specs.declared.pvalue.PValue.{PValue}
use Rattle.ballot.proofs.Member.{IsEquality, in_left, in_push, has_pvalue-true}
use Rattle.proposer.specs.Unions.{HasPlaces}

module _ {C : Type 0} where
  -- the first pvalues keep their places
  pub places_taken : (place : ℕ × BallotNumber → Option ℕ) (n : ℕ) (ps : List (PValue C)) → HasPlaces place ps → HasPlaces place (take n ps)
  places_taken place n ps h =
      record { each = λ p i. h.each p (subst (IsIn p) (take-append-drop n ps) (in_left p (take n ps) (drop n ps) i)) }

  -- what has no place isn't there
  pub no_place : (eq : C → C → Bool) → IsEquality eq → (place : ℕ × BallotNumber → Option ℕ) (ps : List (PValue C)) (p : PValue C) →
      HasPlaces place ps → None ≡ place (p.slot, p.ballot) → false ≡ has_pvalue eq p ps
  no_place eq law place ps p h none =
      go (has_pvalue eq p ps) refl
    where
      go : (t : Bool) → has_pvalue eq p ps ≡ t → false ≡ t
      go true e = absurd (true≢false (sym (h.each p (has_pvalue-true eq law p ps e)) ∙ ap is_some (sym none)))
      go false e = refl

  -- with a place for the new one, each has its place
  pub place_added : (place next : ℕ × BallotNumber → Option ℕ) (at : ℕ × BallotNumber → Bool) (ps : List (PValue C)) (p : PValue C) (n : ℕ) → HasPlaces place ps →
      ((k : ℕ × BallotNumber) → next k ≡ cond (at k) (Some n) (place k)) → next (p.slot, p.ballot) ≡ Some n → HasPlaces next (ps ++ p ∷ [])
  place_added place next at ps p n h others own =
      record {
        each = λ x i.
            ⊎_elim
            (λ (old : IsIn x ps). go (x.slot, x.ballot) (at (x.slot, x.ballot)) (others (x.slot, x.ballot)) (h.each x old))
            (λ (is : p ≡ x). subst (λ (y : PValue C). IsSome (next (y.slot, y.ballot))) is (ap is_some own))
            (in_push x p ps i);
      }
    where
      go : (k : ℕ × BallotNumber) (t : Bool) → next k ≡ cond t (Some n) (place k) → IsSome (place k) → IsSome (next k)
      go k true e s = ap is_some e
      go k false e s = ap is_some e ∙ s

  pub place_if_added : {E : Type 0} (r : Result (Unit {0}) E) (place next : ℕ × BallotNumber → Option ℕ) (at : ℕ × BallotNumber → Bool) (ps qs : List (PValue C)) (p : PValue C) (n : ℕ) → HasPlaces place ps →
      ((k : ℕ × BallotNumber) → next k ≡ cond (at k) (Some n) (place k)) → next (p.slot, p.ballot) ≡ Some n → OnOk r (qs ≡ ps ++ p ∷ []) → OnErr r (qs ≡ ps) → HasPlaces next qs
  place_if_added (Ok u) place next at ps qs p n h others own ok err = subst (HasPlaces next) (sym ok) (place_added place next at ps p n h others own)
  place_if_added (Err e) place next at ps qs p n h others own ok err =
      let more = place_added place next at ps p n h others own in
      record { each = λ x i. more.each x (in_left x ps (p ∷ []) (subst (IsIn x) err i)) }
