-- Calls of a leader, one after another.
use Rattle.std.specs.Prelude.{◌≡◌, ℕ, List, [], ◌∷◌, ◌++◌, Bool, true, Some, IsSome}
use Rattle.ballot.specs.Ballots.{BallotNumber, AtMost}
use Rattle.ballot.specs.Nodes.{AreDistinct}
use Rattle.ballot.specs.Lists.{IsIn}
use Rattle.ballot.specs.declared.pvalue.PValue.{PValue}
use Rattle.ballot.specs.declared.message.Promise.{Promise}
use Rattle.ballot.specs.declared.message.Vote.{Vote}
use Rattle.ballot.specs.declared.message.Message.TheVariants.{P2a}
use Rattle.ballot.specs.declared.outgoing.Outgoing.{Outgoing}
use Rattle.proposer.specs.Quorums.{Pending}
use Rattle.proposer.specs.Scouts.{ScoutState}
use Rattle.proposer.specs.Commanders.{CommanderState}
use Rattle.ballot.specs.Slots.{Rising, at_slot}
use Rattle.ballot.specs.Sends.{Move, stays}
use Rattle.leader.specs.Leaders.{LeaderState, Phase, Scouting, Active, phase_is_active, proposed, campaigned, preempted, adopted, hears_promise, hears_vote, leader_ticks}

pub data Call (C A : Type 0) : Type 0 where
  Proposes : (slot : ℕ) → (command : C) → Call C A
  HearsPromise : (from : ℕ) → (promise : Promise C A) → Call C A
  HearsVote : (from : ℕ) → (vote : Vote) → Call C A
  Adopts : (ballot : BallotNumber) → (pvalues : List (PValue C)) → Call C A
  IsPreempted : (ballot : BallotNumber) → Call C A
  Campaigns : Call C A
  Ticks : Call C A

module _ {C A : Type 0} where
  abbrev pub called : (C → C → Bool) → LeaderState C → Call C A → Move (LeaderState C) C A
  called eq l (Proposes slot command) = proposed l slot command
  called eq l (HearsPromise from promise) = hears_promise eq l from promise
  called eq l (HearsVote from vote) = hears_vote l from vote
  called eq l (Adopts ballot pvalues) = adopted l ballot pvalues
  called eq l (IsPreempted ballot) = preempted l ballot
  called eq l Campaigns = campaigned l
  called eq l Ticks = leader_ticks l

  -- the leader after all these calls, and all that they send
  abbrev pub all_called : (C → C → Bool) → LeaderState C → List (Call C A) → Move (LeaderState C) C A
  all_called eq l [] = stays l
  all_called eq l (call ∷ calls) =
      let first : Move (LeaderState C) C A = called eq l call in
      let rest : Move (LeaderState C) C A = all_called eq first.after calls in
      record { after = rest.after; sends = first.sends ++ rest.sends }

  -- some acceptor is asked to accept the pvalue
  abbrev pub Asks : List (Outgoing C A) → PValue C → Type 0
  Asks sends p = (to : ℕ) × IsIn (record { to = to; message = P2a p }) sends

module _ {C : Type 0} where
  -- the pvalue is of the leader's ballot, which it has, and of its proposal
  abbrev pub IsAsked : LeaderState C → PValue C → Type 0
  IsAsked l p = (p.ballot ≡ l.ballot) × (phase_is_active l.phase ≡ true) × (at_slot p.slot l.proposals ≡ Some p.command)

  -- the scout waits for the leader's ballot, and has heard distinct nodes of the cluster
  abbrev pub IsItsScout : ℕ → BallotNumber → Pending (ScoutState C) → Type 0
  IsItsScout size ballot scout = (scout.size ≡ size) × ((s : ScoutState C) × (scout.state ≡ Some s) × (s.ballot ≡ ballot) × AreDistinct size s.heard)

  -- the commander waits at its slot for the leader's ballot, has heard distinct nodes of the cluster, and its slot has a proposal
  abbrev pub IsItsCommander : ℕ → BallotNumber → List (ℕ × C) → ℕ × Pending CommanderState → Type 0
  IsItsCommander size ballot proposals k =
      (k.1.size ≡ size) × IsSome (at_slot k.0 proposals) × ((c : CommanderState) × (k.1.state ≡ Some c) × (c.ballot ≡ ballot) × (c.slot ≡ k.0) × AreDistinct size c.heard)

  abbrev pub FitsPhase : ℕ → BallotNumber → List (ℕ × C) → Phase C → Type 0
  FitsPhase size ballot proposals (Scouting scout) = IsItsScout size ballot scout
  FitsPhase size ballot proposals (Active commanders) =
      Rising commanders × ((k : ℕ × Pending CommanderState) → IsIn k commanders → IsItsCommander size ballot proposals k)
  FitsPhase size ballot proposals _ = Unit {0}

  -- what holds of the leader of node me in a cluster of this size, whatever was called
  pub record IsOrderly (me size : ℕ) (l : LeaderState C) : Type 0 where
    pub itself : l.me ≡ me
    pub its_cluster : l.size ≡ size
    pub own_ballot : l.ballot.leader ≡ me
    pub rising : Rising l.proposals
    pub waits : FitsPhase size l.ballot l.proposals l.phase

  -- an adoption: each slot of the pvalues has the command of one of them, of that slot, whose ballot is at least that of each other of that slot
  abbrev pub HasHighest : List (PValue C) → List (ℕ × C) → Type 0
  HasHighest ps proposals =
      (p : PValue C) → IsIn p ps →
      (best : PValue C) × IsIn best ps × (best.slot ≡ p.slot) × (at_slot p.slot proposals ≡ Some best.command) × ((q : PValue C) → IsIn q ps → q.slot ≡ p.slot → AtMost q.ballot best.ballot)

  -- and every other slot keeps its proposal
  abbrev pub KeepsOthers : List (PValue C) → List (ℕ × C) → List (ℕ × C) → Type 0
  KeepsOthers ps before after = (s : ℕ) → ((p : PValue C) → IsIn p ps → p.slot ≡ s → ⊥) → at_slot s after ≡ at_slot s before
