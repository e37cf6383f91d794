-- What holds of all acceptors and leaders, and of all messages that were sent, in every run.
use Rattle.std.proofs.Common.{◌≡◌, ℕ, List, ◌++◌, Bool, true, Some, cond, eqb}
use Rattle.ballot.specs.Ballots.{BallotNumber, Below, AtMost}
use Rattle.ballot.specs.Lists.{IsIn}
use Rattle.ballot.specs.Nodes.{is_among, IsMajority}
use Rattle.ballot.specs.declared.pvalue.PValue.{PValue}
use Rattle.ballot.specs.declared.message.Promise.{Promise}
use Rattle.ballot.specs.declared.message.Message.TheVariants.{P1b}
use Rattle.ballot.specs.declared.message.Envelope.{Envelope}
use Rattle.ballot.specs.declared.outgoing.Outgoing.{Outgoing}
use Rattle.acceptor.specs.Acceptors.{AcceptorState, Reached, Holds, HasReached}
use Rattle.proposer.specs.Scouts.{ScoutState}
use Rattle.leader.specs.Leaders.{LeaderState, Phase, Scouting, Active}
use Rattle.ballot.specs.Slots.{at_slot}
use Rattle.leader.specs.Calls.{IsOrderly}
use Rattle.leader.proofs.Asked.{Past}
use Rattle.runs.specs.Chosen.{asked}
use Rattle.runs.proofs.Chosen.{Voted, sent_by}

-- the acceptors and leaders of a cluster, by their nodes' numbers, and all messages that were sent
pub record Roles (C A : Type 0) : Type 0 where
  pub size : ℕ
  pub acceptors : ℕ → AcceptorState C
  pub leaders : ℕ → LeaderState C
  pub sent : List (Envelope C A)

-- f, with x for n
abbrev pub put : {X : Type 0} → (ℕ → X) → ℕ → X → ℕ → X
put f n x m = cond (eqb m n) x (f m)

module _ {C : Type 0} where
  -- for each of the pvalues of the slot there is one of this command, of at least its ballot
  abbrev pub IsChoice : List (PValue C) → ℕ → C → Type 0
  IsChoice ps s c = (p : PValue C) → IsIn p ps → p.slot ≡ s → (r : PValue C) × IsIn r ps × (r.slot ≡ s) × (r.command ≡ c) × AtMost p.ballot r.ballot

  -- each proposal is a choice, and each slot of the pvalues has a proposal
  abbrev pub AreChoices : List (PValue C) → List (ℕ × C) → Type 0
  AreChoices ps proposals =
      ((s : ℕ) (c : C) → at_slot s proposals ≡ Some c → IsChoice ps s c) × ((p : PValue C) → IsIn p ps → (c : C) × (at_slot p.slot proposals ≡ Some c))

module _ {C A : Type 0} where
  -- the node has another acceptor and another leader now, and has sent these messages
  abbrev pub moved : Roles C A → ℕ → AcceptorState C → LeaderState C → List (Outgoing C A) → Roles C A
  moved w n a l sends = record { size = w.size; acceptors = put w.acceptors n a; leaders = put w.leaders n l; sent = w.sent ++ sent_by n sends }

  -- the acceptor of node n has reached the ballot, and the pvalues tell of each vote of the node below it
  abbrev pub Covers : List (Envelope C A) → ℕ → AcceptorState C → BallotNumber → List (PValue C) → Type 0
  Covers sent n a b ps = Reached a.ballot b × ((c : BallotNumber) (s : ℕ) → Voted sent n c s → Below c b → Holds ps s c)

  -- each of the pvalues was asked for, with a ballot below this one
  abbrev pub AreBelow : List (Envelope C A) → BallotNumber → List (PValue C) → Type 0
  AreBelow sent b ps = (p : PValue C) → IsIn p ps → IsIn p (asked sent) × Below p.ballot b

  abbrev pub AreUpTo : List (Envelope C A) → BallotNumber → List (PValue C) → Type 0
  AreUpTo sent b ps = (p : PValue C) → IsIn p ps → IsIn p (asked sent) × AtMost p.ballot b

  -- the pvalues cover a majority
  abbrev pub Backs : ℕ → (ℕ → AcceptorState C) → List (Envelope C A) → BallotNumber → List (PValue C) → Type 0
  Backs size acceptors sent b ps =
      (test : ℕ → Bool) × IsMajority size test × ((n : ℕ) → test n ≡ true → Covers sent n (acceptors n) b ps) × AreBelow sent b ps

  -- what the scout holds covers all that it has heard
  abbrev pub IsTold : (ℕ → AcceptorState C) → List (Envelope C A) → BallotNumber → ScoutState C → Type 0
  IsTold acceptors sent b s =
      ((n : ℕ) → is_among n s.heard ≡ true → Covers sent n (acceptors n) b s.pvalues) × AreBelow sent b s.pvalues

  -- what a leader with this ballot and these proposals rests on
  abbrev pub IsBacked : ℕ → (ℕ → AcceptorState C) → List (Envelope C A) → BallotNumber → List (ℕ × C) → Phase C → Type 0
  IsBacked size acceptors sent b proposals (Scouting scout) = (s : ScoutState C) → scout.state ≡ Some s → IsTold acceptors sent b s
  IsBacked size acceptors sent b proposals (Active commanders) = (ps : List (PValue C)) × Backs size acceptors sent b ps × AreChoices ps proposals
  IsBacked size acceptors sent b proposals _ = Unit {0}

  abbrev pub IsLeaderBacked : Roles C A → LeaderState C → Type 0
  IsLeaderBacked w l = IsBacked w.size w.acceptors w.sent l.ballot l.proposals l.phase

  pub record Sound (w : Roles C A) : Type 0 where
    -- what an acceptor keeps was asked for, and it has reached its ballot
    pub kept_asked : (n : ℕ) (p : PValue C) → IsIn p (w.acceptors n).accepted → IsIn p (asked w.sent)
    pub kept_reached : (n : ℕ) → HasReached (w.acceptors n)
    -- a promise tells of each vote below its ballot
    pub promised : (n to : ℕ) (p : Promise C A) → IsIn (record { from = n; to = to; message = P1b p }) w.sent →
        Covers w.sent n (w.acceptors n) p.ballot p.accepted × AreUpTo w.sent p.ballot p.accepted
    -- what a node voted for, or something higher of that slot, is kept
    pub voted : (n : ℕ) (b : BallotNumber) (s : ℕ) → Voted w.sent n b s → Holds (w.acceptors n).accepted s b
    -- what was asked for is a proposal of the ballot's leader, unless that has left the ballot
    pub asked_past : (p : PValue C) → IsIn p (asked w.sent) → Past (w.leaders p.ballot.leader) p
    pub asked_once : (p q : PValue C) → IsIn p (asked w.sent) → IsIn q (asked w.sent) → p.ballot ≡ q.ballot → p.slot ≡ q.slot → p.command ≡ q.command
    -- and is the choice of a majority
    pub asked_backed : (p : PValue C) → IsIn p (asked w.sent) →
        (ps : List (PValue C)) × Backs w.size w.acceptors w.sent p.ballot ps × IsChoice ps p.slot p.command
    pub orderly : (n : ℕ) → IsOrderly n w.size (w.leaders n)
    pub backed : (n : ℕ) → IsLeaderBacked w (w.leaders n)
