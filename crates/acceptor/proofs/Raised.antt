-- An acceptor's ballot never falls, and what it takes is told by its answer.
use Rattle.std.proofs.Common.{◌≡◌, Bool, true, false, Option, Some, None, refl, sym, subst, ⊎_elim}
use mathlib.Core.Bool.{not}
use Rattle.std.proofs.lemmas.Bool.{true≢false}
use Rattle.ballot.specs.Ballots.{BallotNumber, AtMost, below}
use Rattle.ballot.proofs.Order.{below-true, below-false, below_to_most, below_most, most_below, most_refl, not_below_itself, below_not_most, three}
use Rattle.acceptor.specs.Acceptors.{Reached, raised, accepts}

-- the answer is at least what was asked, and at least what was reached
pub raised_above : (o : Option BallotNumber) (b : BallotNumber) → AtMost b (raised o b)
raised_above None b = most_refl b
raised_above (Some a) b =
    go (below a b) refl
  where
    go : (t : Bool) → below a b ≡ t → AtMost b (raised (Some a) b)
    go true e = rw e (most_refl b)
    go false e = rw e (below-false a b e)

pub raised_keeps : (o : Option BallotNumber) (b c : BallotNumber) → Reached o c → AtMost c (raised o b)
raised_keeps None b c h = absurd h
raised_keeps (Some a) b c h =
    go (below a b) refl
  where
    go : (t : Bool) → below a b ≡ t → AtMost c (raised (Some a) b)
    go true e = rw e (below_to_most c b (most_below c a b h (below-true a b e)))
    go false e = rw e h

-- a ballot is taken exactly if the answer is that ballot
pub taken_raises : (o : Option BallotNumber) (b : BallotNumber) → accepts o b ≡ true → raised o b ≡ b
taken_raises None b e = refl
taken_raises (Some a) b e =
    go (below a b) (below b a) refl refl e
  where
    go : (s t : Bool) → below a b ≡ s → below b a ≡ t → not (below b a) ≡ true → raised (Some a) b ≡ b
    go true t p q e = rw p refl
    go false true p q e = absurd (let x : not true ≡ true = (rw q at e) in true≢false (sym x))
    go false false p q e =
        rw p (⊎_elim (λ e. e) (λ o. absurd (⊎_elim (λ l. below_not_most a b l (below-false a b p)) (λ l. below_not_most b a l (below-false b a q)) o)) (three a b))

pub raised_takes : (o : Option BallotNumber) (b : BallotNumber) → raised o b ≡ b → accepts o b ≡ true
raised_takes None b e = refl
raised_takes (Some a) b e =
    go (below b a) refl
  where
    go : (t : Bool) → below b a ≡ t → not (below b a) ≡ true
    go false q = rw q refl
    go true q = absurd (not_below_itself b (below_most b a b (below-true b a q) (subst (AtMost a) e above)))
      where
        above : AtMost a (raised (Some a) b)
        above = raised_keeps (Some a) b a (most_refl a)

-- a ballot that is taken is at least any that was reached
pub taken_reaches : (o : Option BallotNumber) (b c : BallotNumber) → accepts o b ≡ true → Reached o c → AtMost c b
taken_reaches o b c t h = subst (AtMost c) (taken_raises o b t) (raised_keeps o b c h)
