-- Calls of an acceptor, one after another.
use Rattle.std.specs.Prelude.{◌≡◌, ◌⊎◌, List, [], ◌∷◌, true}
use Rattle.ballot.specs.Ballots.{BallotNumber}
use Rattle.ballot.specs.declared.pvalue.PValue.{PValue}
use Rattle.acceptor.specs.Acceptors.{AcceptorState, accepts, after_p1a, after_p2a}

pub data Call (C : Type 0) : Type 0 where
  P1a : (ballot : BallotNumber) → Call C
  P2a : (pvalue : PValue C) → Call C

module _ {C : Type 0} where
  abbrev pub called : AcceptorState C → Call C → AcceptorState C
  called a (P1a b) = after_p1a a b
  called a (P2a p) = after_p2a a p

  -- the acceptor after all these calls
  abbrev pub all_called : AcceptorState C → List (Call C) → AcceptorState C
  all_called a [] = a
  all_called a (call ∷ calls) = all_called (called a call) calls

  -- the call asks the acceptor to accept p, whose ballot isn't below the acceptor's
  abbrev pub Accepts : AcceptorState C → Call C → PValue C → Type 0
  Accepts a (P1a b) p = ⊥
  Accepts a (P2a q) p = (q ≡ p) × (accepts a.ballot q.ballot ≡ true)

  -- the acceptor accepts p in one of these calls
  abbrev pub WasAccepted : AcceptorState C → List (Call C) → PValue C → Type 0
  WasAccepted a [] p = ⊥
  WasAccepted a (call ∷ calls) p = Accepts a call p ⊎ WasAccepted (called a call) calls p
