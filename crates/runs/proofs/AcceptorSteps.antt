-- What an acceptor does keeps the invariant.
use Rattle.std.proofs.Common.{◌≡◌, ℕ, [], ◌∷◌, true, sym, ap, subst, ⊎_elim, refl}
use Rattle.ballot.specs.Ballots.{BallotNumber, AtMost}
use Rattle.ballot.specs.Lists.{IsIn}
use Rattle.ballot.specs.declared.pvalue.PValue.{PValue}
use Rattle.ballot.specs.declared.message.Message.{Message}
use Rattle.ballot.specs.declared.message.Message.TheVariants.{P1b, P2a, P2b}
use Rattle.ballot.specs.declared.outgoing.Outgoing.{Outgoing}
use Rattle.ballot.proofs.Order.{most_refl}
use Rattle.acceptor.specs.Acceptors.{AcceptorState, Reached, raised, accepts, Holds, after_p1a, after_p2a, promise_for, vote_for}
use Rattle.acceptor.proofs.Raised.{raised_keeps, raised_takes}
use Rattle.acceptor.proofs.Kept.{reached_p1a, reached_p2a, held_stays, taken_held, accepted_cases}
use Rattle.runs.specs.Chosen.{asked}
use Rattle.runs.proofs.Chosen.{vote_of}
use Rattle.runs.proofs.Invariant.{Roles, Covers, AreUpTo, Sound}
use Rattle.runs.proofs.Step.{Steps}

module _ {C A : Type 0} where
  -- what is told of what an acceptor answers
  abbrev IsTrue : Roles C A → ℕ → AcceptorState C → Message C A → Type 0
  IsTrue w n a (P1b p) = Covers w.sent n a p.ballot p.accepted × AreUpTo w.sent p.ballot p.accepted
  IsTrue w n a (P2b v) = v.asked ≡ v.ballot → Holds a.accepted v.slot v.ballot × ((c : BallotNumber) → Reached a.ballot c → AtMost c v.ballot)
  IsTrue w n a (P2a p) = ⊥
  IsTrue w n a _ = Unit {0}

  -- a step of the acceptor alone, which sends one answer
  answering : (w : Roles C A) → Sound w → (n to : ℕ) (a : AcceptorState C) (m : Message C A) →
      ((c : BallotNumber) → Reached (w.acceptors n).ballot c → Reached a.ballot c) →
      ((s : ℕ) (c : BallotNumber) → Holds (w.acceptors n).accepted s c → Holds a.accepted s c) →
      ((p : PValue C) → IsIn p a.accepted → IsIn p (asked w.sent)) → ((p : PValue C) → IsIn p a.accepted → Reached a.ballot p.ballot) →
      IsTrue w n a m → Steps w n a (w.leaders n) (record { to = to; message = m } ∷ [])
  answering w i n to a m rises holds kept reached true_of =
      record {
        rises = rises;
        holds = holds;
        kept = kept;
        reached = reached;
        promises = λ t p h. only t (P1b p) h;
        votes = λ t b s h. let x : IsTrue w n a (P2b (vote_of b s)) = only t (P2b (vote_of b s)) h in x refl;
        asks = λ p h. absurd (only h.0 (P2a p) h.1);
        keeps = λ p h. h;
        orderly = i.orderly n;
        backed = i.backed n;
      }
    where
      mine : Outgoing C A
      mine = record { to = to; message = m }

      only : (t : ℕ) (x : Message C A) → IsIn (record { to = t; message = x }) (mine ∷ []) → IsTrue w n a x
      only t x h = ⊎_elim (λ (e : mine ≡ record { to = t; message = x }). subst (IsTrue w n a) (ap (λ (y : Outgoing C A). y.message) e) true_of) (λ none. absurd none) h

  -- P1a
  pub promise_steps : (w : Roles C A) → Sound w → (n to : ℕ) (b : BallotNumber) →
      Steps w n (after_p1a (w.acceptors n) b) (w.leaders n) (record { to = to; message = P1b (promise_for (w.acceptors n) b) } ∷ [])
  promise_steps w i n to b =
      answering w i n to (after_p1a a b) (P1b (promise_for a b)) (λ c h. raised_keeps a.ballot b c h) (λ s c h. h) (i.kept_asked n) (reached_p1a a b (i.kept_reached n))
      ((most_refl (raised a.ballot b), λ c s v lower. i.voted n c s v), λ p h. (i.kept_asked n p h, raised_keeps a.ballot b p.ballot (i.kept_reached n p h)))
    where
      a : AcceptorState C
      a = w.acceptors n

  -- P2a, of a pvalue that was asked for
  pub vote_steps : (w : Roles C A) → Sound w → (n to : ℕ) (p : PValue C) → IsIn p (asked w.sent) →
      Steps w n (after_p2a (w.acceptors n) p) (w.leaders n) (record { to = to; message = P2b (vote_for (w.acceptors n) p) } ∷ [])
  vote_steps w i n to p asks =
      answering w i n to (after_p2a a p) (P2b (vote_for a p)) (λ c h. raised_keeps a.ballot p.ballot c h) (held_stays a p (i.kept_reached n))
      (λ x h. ⊎_elim (λ old. i.kept_asked n x old) (λ (new : (p ≡ x) × (accepts a.ballot p.ballot ≡ true)). subst (λ y. IsIn y (asked w.sent)) new.0 asks) (accepted_cases a p x h))
      (reached_p2a a p (i.kept_reached n))
      (λ e. (subst (Holds (after_p2a a p).accepted p.slot) e (taken_held a p (raised_takes a.ballot p.ballot (sym e))), λ c h. h))
    where
      a : AcceptorState C
      a = w.acceptors n
