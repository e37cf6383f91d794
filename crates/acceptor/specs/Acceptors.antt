-- What an acceptor answers, and what it then is.
use Rattle.std.specs.Prelude.{◌≡◌, refl, ℕ, ◌==◌, List, [], ◌∷◌, Bool, true, false, not, Option, Some, None, map, nat_lt, if◌then◌else◌}
use Rattle.std.specs.Option.{option_map_or}
use Rattle.std.specs.List.{find}
use Rattle.std.specs.List.Sorted.{IsStrictlyIncreasing}
use Rattle.ballot.specs.Ballots.{BallotNumber, AtMost, below, same_ballot}
use Rattle.ballot.specs.Lists.{IsIn}
use Rattle.ballot.specs.declared.pvalue.PValue.{PValue}
use Rattle.ballot.specs.declared.message.Promise.{Promise}
use Rattle.ballot.specs.declared.message.Vote.{Vote}

-- its ballot, none at first, and the pvalues that it keeps, one for a slot, in slot order
pub record AcceptorState (C : Type 0) : Type 0 where
  pub ballot : Option BallotNumber
  pub accepted : List (PValue C)

-- the higher of both: none is below all
abbrev pub raised : Option BallotNumber → BallotNumber → BallotNumber
raised own b = option_map_or (λ a. if below a b then b else a) own b

-- the acceptor's ballot is at least b
abbrev pub Reached : Option BallotNumber → BallotNumber → Type 0
Reached None b = ⊥
Reached (Some a) b = AtMost b a

-- whether an acceptor of this ballot accepts a pvalue of b: b isn't below its own
abbrev pub accepts : Option BallotNumber → BallotNumber → Bool
accepts own b = option_map_or (λ a. not (below b a)) own true

module _ {C : Type 0} where
  -- the slots rise strictly
  abbrev pub RiseBySlot : List (PValue C) → Type 0
  RiseBySlot ps = IsStrictlyIncreasing (map (λ p. p.slot) ps)

  -- what is accepted for the slot
  abbrev pub accepted_for : ℕ → List (PValue C) → Option (PValue C)
  accepted_for s ps = find (λ p. p.slot == s) ps

  -- p in slot order, in place of what stands at its slot
  abbrev pub placed : PValue C → List (PValue C) → List (PValue C)
  placed p [] = p ∷ []
  placed p (q ∷ qs) = if nat_lt p.slot q.slot then p ∷ q ∷ qs else if p.slot == q.slot then p ∷ qs else q ∷ placed p qs

  -- p is placed, unless the one that is accepted for its slot has the same ballot
  abbrev pub with_accepted : List (PValue C) → PValue C → List (PValue C)
  with_accepted ps p =
      if option_map_or (λ q. same_ballot q.ballot p.ballot) (accepted_for p.slot ps) false then ps else placed p ps

  -- a pvalue of the slot is among them, of at least this ballot
  abbrev pub Holds : List (PValue C) → ℕ → BallotNumber → Type 0
  Holds ps s b = (p : PValue C) × IsIn p ps × (p.slot ≡ s) × AtMost b p.ballot

  -- it was asked for nothing
  abbrev pub new_acceptor : AcceptorState C
  new_acceptor = record { ballot = None; accepted = [] }

  -- asked for a ballot, it raises its own to that
  abbrev pub after_p1a : AcceptorState C → BallotNumber → AcceptorState C
  after_p1a a b = record a { ballot = Some (raised a.ballot b) }

  -- asked to accept a pvalue, it raises its ballot to that of the pvalue, and accepts it unless its own was higher
  abbrev pub after_p2a : AcceptorState C → PValue C → AcceptorState C
  after_p2a a p =
      record (after_p1a a p.ballot) { accepted = if accepts a.ballot p.ballot then with_accepted a.accepted p else a.accepted }

  -- its answer to a P2a
  abbrev pub vote_for : AcceptorState C → PValue C → Vote
  vote_for a p = record { asked = p.ballot; slot = p.slot; ballot = raised a.ballot p.ballot }

  -- the acceptor's ballot is at least that of each pvalue that it keeps
  abbrev pub HasReached : AcceptorState C → Type 0
  HasReached a = (p : PValue C) → IsIn p a.accepted → Reached a.ballot p.ballot

module _ {C A : Type 0} where
  -- its answer to a P1a
  abbrev pub promise_for : AcceptorState C → BallotNumber → Promise C A
  promise_for a b = record { asked = b; ballot = raised a.ballot b; accepted = a.accepted }

-- worked examples

abbrev ballot_of : ℕ → ℕ → BallotNumber
ballot_of round leader = record { round = round; leader = leader }

abbrev pvalue_of : {C : Type 0} → BallotNumber → ℕ → C → PValue C
pvalue_of ballot slot command = record { ballot = ballot; slot = slot; command = command }

-- an acceptor that was asked for (1, 2) refuses a pvalue of (0, 1), and has accepted nothing when (2, 1) asks
module _ {C : Type 0} (command : C) where
  abbrev asked_for_one_two : AcceptorState C
  asked_for_one_two = after_p1a new_acceptor (ballot_of 1 2)

  abbrev of_zero_one : PValue C
  of_zero_one = pvalue_of (ballot_of 0 1) 1 command

  refused : (vote_for asked_for_one_two of_zero_one).ballot ≡ ballot_of 1 2
  refused = refl

  nothing_accepted : (A : Type 0) →
      promise_for {A = A} (after_p2a asked_for_one_two of_zero_one) (ballot_of 2 1)
      ≡ record { asked = ballot_of 2 1; ballot = ballot_of 2 1; accepted = [] }
  nothing_accepted A = refl

-- of two pvalues for slot 1 the higher is kept, beside one for slot 2
module _ {C : Type 0} (c d e : C) where
  abbrev of_two_slots : AcceptorState C
  of_two_slots =
      after_p2a (after_p2a (after_p2a new_acceptor (pvalue_of (ballot_of 0 1) 1 c)) (pvalue_of (ballot_of 0 2) 1 d)) (pvalue_of (ballot_of 0 2) 2 e)

  one_for_a_slot : (A : Type 0) →
      (promise_for {A = A} of_two_slots (ballot_of 1 1)).accepted ≡ pvalue_of (ballot_of 0 2) 1 d ∷ pvalue_of (ballot_of 0 2) 2 e ∷ []
  one_for_a_slot A = refl

  -- the first of equal ballots stays
  first_stays : (after_p2a of_two_slots (pvalue_of (ballot_of 0 2) 2 c)).accepted ≡ of_two_slots.accepted
  first_stays = refl
