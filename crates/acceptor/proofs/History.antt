-- What an acceptor keeps after any calls.
use Rattle.std.proofs.Common.{◌⊎◌, List, [], ◌∷◌, Bool, true, false, ℕ, Option, Some, None, subst, inl, inr, ⊎_elim, cond}
use Rattle.ballot.specs.Ballots.{BallotNumber, same_ballot}
use Rattle.ballot.specs.Lists.{IsIn}
use Rattle.ballot.specs.declared.pvalue.PValue.{PValue}
use Rattle.acceptor.specs.Acceptors.{AcceptorState, RiseBySlot, accepts, accepted_for, placed, with_accepted, Holds, HasReached, after_p2a, new_acceptor}
use Rattle.acceptor.specs.Calls.{Call, P1a, P2a, called, all_called, Accepts, WasAccepted}
use Rattle.acceptor.proofs.Kept.{accepted_beside, reached_new, reached_p1a, reached_p2a, held_stays, taken_held, accepted_cases}
use Rattle.acceptor.proofs.Rises.{rising_none, rising_placed}

module _ {C : Type 0} where
  -- one call
  called_reaches : (a : AcceptorState C) (call : Call C) → HasReached a → HasReached (called a call)
  called_reaches a (P1a b) r = reached_p1a a b r
  called_reaches a (P2a p) r = reached_p2a a p r

  called_holds : (a : AcceptorState C) (call : Call C) → HasReached a → (s : ℕ) (b : BallotNumber) → Holds a.accepted s b → Holds (called a call).accepted s b
  called_holds a (P1a c) r s b h = h
  called_holds a (P2a p) r s b h = held_stays a p r s b h

  called_cases : (a : AcceptorState C) (call : Call C) (p : PValue C) → IsIn p (called a call).accepted → IsIn p a.accepted ⊎ Accepts a call p
  called_cases a (P1a b) p h = inl h
  called_cases a (P2a q) p h = accepted_cases a q p h

  accepts_held : (a : AcceptorState C) (call : Call C) (p : PValue C) → Accepts a call p → Holds (called a call).accepted p.slot p.ballot
  accepts_held a (P1a b) p h = absurd h
  accepts_held a (P2a q) p h = subst (λ (y : PValue C). Holds (after_p2a a q).accepted y.slot y.ballot) h.0 (taken_held a q h.1)

  rising_kept : (ps : List (PValue C)) (p : PValue C) → RiseBySlot ps → RiseBySlot (with_accepted ps p)
  rising_kept ps p h =
      go (accepted_for p.slot ps)
    where
      one : (t : Bool) → RiseBySlot (cond t ps (placed p ps))
      one true = h
      one false = rising_placed p ps h

      go : (o : Option (PValue C)) → RiseBySlot (accepted_beside o p ps)
      go None = rising_placed p ps h
      go (Some q) = one (same_ballot q.ballot p.ballot)

  called_rises : (a : AcceptorState C) (call : Call C) → RiseBySlot a.accepted → RiseBySlot (called a call).accepted
  called_rises a (P1a b) h = h
  called_rises a (P2a p) h =
      go (accepts a.ballot p.ballot)
    where
      go : (t : Bool) → RiseBySlot (cond t (with_accepted a.accepted p) a.accepted)
      go true = rising_kept a.accepted p h
      go false = h

  -- all calls
  all_hold : (a : AcceptorState C) (calls : List (Call C)) → HasReached a → (s : ℕ) (b : BallotNumber) → Holds a.accepted s b → Holds (all_called a calls).accepted s b
  all_hold a [] r s b h = h
  all_hold a (call ∷ calls) r s b h = all_hold (called a call) calls (called_reaches a call r) s b (called_holds a call r s b h)

  all_cases : (a : AcceptorState C) (calls : List (Call C)) (p : PValue C) → IsIn p (all_called a calls).accepted → IsIn p a.accepted ⊎ WasAccepted a calls p
  all_cases a [] p h = inl h
  all_cases a (call ∷ calls) p h =
      ⊎_elim
      (λ (before : IsIn p (called a call).accepted). ⊎_elim (λ old. inl old) (λ now. inr (inl now)) (called_cases a call p before))
      (λ later. inr (inr later))
      (all_cases (called a call) calls p h)

  all_topped : (a : AcceptorState C) (calls : List (Call C)) (p : PValue C) → HasReached a → WasAccepted a calls p → Holds (all_called a calls).accepted p.slot p.ballot
  all_topped a [] p r h = absurd h
  all_topped a (call ∷ calls) p r h =
      ⊎_elim
      (λ (now : Accepts a call p). all_hold (called a call) calls (called_reaches a call r) p.slot p.ballot (accepts_held a call p now))
      (λ (later : WasAccepted (called a call) calls p). all_topped (called a call) calls p (called_reaches a call r) later)
      h

  all_rise : (a : AcceptorState C) (calls : List (Call C)) → RiseBySlot a.accepted → RiseBySlot (all_called a calls).accepted
  all_rise a [] h = h
  all_rise a (call ∷ calls) h = all_rise (called a call) calls (called_rises a call h)

  -- of a new acceptor
  pub kept_was_accepted : (calls : List (Call C)) (p : PValue C) → IsIn p (all_called new_acceptor calls).accepted → WasAccepted new_acceptor calls p
  kept_was_accepted calls p h = ⊎_elim (λ (none : IsIn p []). absurd none) (λ was. was) (all_cases new_acceptor calls p h)

  pub accepted_is_topped : (calls : List (Call C)) (p : PValue C) → WasAccepted new_acceptor calls p → Holds (all_called new_acceptor calls).accepted p.slot p.ballot
  accepted_is_topped calls p h = all_topped new_acceptor calls p reached_new h

  pub one_for_each_slot : (calls : List (Call C)) → RiseBySlot (all_called {C = C} new_acceptor calls).accepted
  one_for_each_slot calls = all_rise new_acceptor calls rising_none
