-- What a leader sends: P1a, P2a and Decision, and no answer of an acceptor.
use Rattle.std.proofs.Common.{ℕ, List, [], Option, Some, None, Bool, true, false, subst, cond}
use Rattle.ballot.specs.Ballots.{BallotNumber, same_ballot}
use Rattle.ballot.specs.Lists.{IsIn}
use Rattle.ballot.specs.Sends.{to_all}
use Rattle.ballot.specs.declared.pvalue.PValue.{PValue}
use Rattle.ballot.specs.declared.message.Promise.{Promise}
use Rattle.ballot.specs.declared.message.Vote.{Vote}
use Rattle.ballot.specs.declared.message.Message.{Message}
use Rattle.ballot.specs.declared.message.Message.TheVariants.{P1a, P2a, Decision}
use Rattle.ballot.specs.declared.outgoing.Outgoing.{Outgoing}
use Rattle.ballot.proofs.Sends.{in_to_all}
use Rattle.proposer.specs.Quorums.{Pending}
use Rattle.proposer.specs.Scouts.{scout_step, progress_of}
use Rattle.proposer.specs.Commanders.{CommanderState}
use Rattle.proposer.specs.declared.scout.Progress.{Progress}
use Rattle.proposer.specs.declared.scout.Progress.TheVariants.{Waiting, Adopted, Preempted, Stale}
use Rattle.proposer.specs.declared.commander.Verdict.{Verdict}
use Rattle.proposer.specs.declared.commander.Verdict.TheVariants.{Decided}
use Rattle.proposer.specs.declared.commander.Verdict.TheVariants as vote
use Rattle.leader.specs.Leaders.{Phase, Passive, Scouting, Active, Over, LeaderState, p2a, keeps_proposal, adopts, replaced, best_pvalues, asked_again}
use Rattle.leader.proofs.Parts.{in_phase, p2as, p2a_again, proposed_at, campaigned_in, adopted_in, after_promise, on_progress, hears_promise_in, with_proposals, on_verdict, hears_vote_in}
use Rattle.leader.specs.Parts.{decision, after_vote, verdict_on}
use Rattle.ballot.specs.Slots.{at_slot}
use Rattle.ballot.specs.Sends.{stays}
use Rattle.leader.specs.Calls.{Call, Proposes, HearsPromise, HearsVote, Adopts, IsPreempted, Campaigns, Ticks, called}
use Rattle.leader.proofs.Asked.{in_flat_map}

-- P holds of each P1a and P2a
module _ {C A : Type 0} (P : Message C A → Type 0) (of_p1a : (b : BallotNumber) → P (P1a b)) (of_p2a : (p : PValue C) → P (P2a p)) where
  abbrev All : List (Outgoing C A) → Type 0
  All sends = (o : Outgoing C A) → IsIn o sends → P o.message

  none : All []
  none o h = absurd h

  all : (n : ℕ) (m : Message C A) → P m → All (to_all n m)
  all n m is o h = subst P (in_to_all n m o h) is

  from_p2a : (l : LeaderState C) (s : ℕ) (c : C) → All (p2a l s c)
  from_p2a l s c = all l.size (P2a (record { ballot = l.ballot; slot = s; command = c })) (of_p2a (record { ballot = l.ballot; slot = s; command = c }))

  from_p2as : (l : LeaderState C) → All (p2as l)
  from_p2as l o h = let x = in_flat_map A (λ e. p2a l e.0 e.1) l.proposals o h in from_p2a l x.0.0 x.0.1 o x.2

  from_p2a_again : (l : LeaderState C) (s : ℕ) (c : Option C) → All (p2a_again l s c)
  from_p2a_again l s None = none
  from_p2a_again l s (Some c) = from_p2a l s c

  from_again : (l : LeaderState C) (phase : Phase C) → All (asked_again l phase)
  from_again l Passive = none
  from_again l (Scouting scout) = all l.size (P1a l.ballot) (of_p1a l.ballot)
  from_again l (Active ks) =
      λ o h. let x = in_flat_map A (λ k. p2a_again l k.0 (at_slot k.0 l.proposals)) ks o h in from_p2a_again l x.0.0 (at_slot x.0.0 l.proposals) o x.2
  from_again l Over = none

  from_proposal : (l : LeaderState C) (s : ℕ) (c : C) (phase : Phase C) → All (keeps_proposal l s c phase).sends
  from_proposal l s c Passive = none
  from_proposal l s c (Scouting scout) = none
  from_proposal l s c (Active ks) = from_p2a l s c
  from_proposal l s c Over = none

  from_proposed : (l : LeaderState C) (s : ℕ) (c : C) (d : Option C) → All (proposed_at l s c d).sends
  from_proposed l s c None = from_proposal l s c l.phase
  from_proposed l s c (Some d) = none

  from_campaign : (l : LeaderState C) (phase : Phase C) → All (campaigned_in l phase).sends
  from_campaign l Passive = all l.size (P1a l.ballot) (of_p1a l.ballot)
  from_campaign l (Scouting scout) = none
  from_campaign l (Active ks) = none
  from_campaign l Over = none

  from_adoption : (l : LeaderState C) (ps : List (PValue C)) → All (adopts l ps).sends
  from_adoption l ps = from_p2as (with_proposals l (replaced l.proposals (best_pvalues ps)))

  from_adopted : (l : LeaderState C) (b : BallotNumber) (ps : List (PValue C)) (phase : Phase C) → All (adopted_in l b ps phase).sends
  from_adopted l b ps Passive = none
  from_adopted l b ps (Scouting scout) =
      go (same_ballot b l.ballot)
    where
      go : (t : Bool) → All (cond t (adopts l ps) (stays l)).sends
      go true = from_adoption l ps
      go false = none
  from_adopted l b ps (Active ks) = none
  from_adopted l b ps Over = none

  from_progress : (l : LeaderState C) (progress : Progress C A) → All (on_progress l progress).sends
  from_progress l Waiting = none
  from_progress l (Adopted ps) = from_adoption l ps
  from_progress l (Preempted b) = none
  from_progress l Stale = none

  from_promise : (eq : C → C → Bool) (l : LeaderState C) (from : ℕ) (p : Promise C A) (phase : Phase C) → All (hears_promise_in eq l from p phase).sends
  from_promise eq l from p Passive = none
  from_promise eq l from p (Scouting scout) = from_progress (in_phase l (Scouting (after_promise eq scout from p))) (progress_of (scout_step eq scout from p))
  from_promise eq l from p (Active ks) = none
  from_promise eq l from p Over = none

  abbrev pub IsNoVote : Call C A → Type 0
  IsNoVote (HearsVote from v) = ⊥
  IsNoVote _ = Unit {0}

  -- on all but a vote a leader sends P1as and P2as
  pub asking_sends : (eq : C → C → Bool) (l : LeaderState C) (call : Call C A) → IsNoVote call → (o : Outgoing C A) → IsIn o (called eq l call).sends → P o.message
  asking_sends eq l (Proposes s c) h = from_proposed l s c (at_slot s l.proposals)
  asking_sends eq l (HearsPromise from p) h = from_promise eq l from p l.phase
  asking_sends eq l (HearsVote from v) h = absurd h
  asking_sends eq l (Adopts b ps) h = from_adopted l b ps l.phase
  asking_sends eq l (IsPreempted b) h = none
  asking_sends eq l Campaigns h = from_campaign l l.phase
  asking_sends eq l Ticks h = from_again l l.phase

  -- P holds of each Decision, too
  module _ (of_decision : (s : ℕ) (c : C) → P (Decision s c)) where
    from_decision : (l : LeaderState C) (s : ℕ) (c : Option C) → All (decision l s c)
    from_decision l s None = none
    from_decision l s (Some c) = all l.size (Decision s c) (of_decision s c)

    from_verdict : (l : LeaderState C) (ks : List (ℕ × Pending CommanderState)) (s : ℕ) (verdict : Verdict) → All (on_verdict l ks s verdict).sends
    from_verdict l ks s vote.Waiting = none
    from_verdict l ks s Decided = from_decision l s (at_slot s l.proposals)
    from_verdict l ks s (vote.Preempted b) = none
    from_verdict l ks s vote.Stale = none

    from_vote : (l : LeaderState C) (from : ℕ) (v : Vote) (phase : Phase C) → All (hears_vote_in l from v phase).sends
    from_vote l from v Passive = none
    from_vote l from v (Scouting scout) = none
    from_vote l from v (Active ks) = from_verdict l (after_vote ks from v (at_slot v.slot ks)) v.slot (verdict_on (at_slot v.slot ks) from v)
    from_vote l from v Over = none

    pub all_sends : (eq : C → C → Bool) (l : LeaderState C) (call : Call C A) → (o : Outgoing C A) → IsIn o (called eq l call).sends → P o.message
    all_sends eq l (Proposes s c) = asking_sends eq l (Proposes s c) tt
    all_sends eq l (HearsPromise from p) = asking_sends eq l (HearsPromise from p) tt
    all_sends eq l (HearsVote from v) = from_vote l from v l.phase
    all_sends eq l (Adopts b ps) = asking_sends eq l (Adopts b ps) tt
    all_sends eq l (IsPreempted b) = asking_sends eq l (IsPreempted b) tt
    all_sends eq l Campaigns = asking_sends eq l Campaigns tt
    all_sends eq l Ticks = asking_sends eq l Ticks tt

module _ {C A : Type 0} where
  abbrev pub IsOfLeader : Message C A → Type 0
  IsOfLeader (P1a b) = Unit {0}
  IsOfLeader (P2a p) = Unit {0}
  IsOfLeader (Decision s c) = Unit {0}
  IsOfLeader _ = ⊥

  pub leader_sends : (eq : C → C → Bool) (l : LeaderState C) (call : Call C A) (o : Outgoing C A) → IsIn o (called eq l call).sends → IsOfLeader o.message
  leader_sends = all_sends IsOfLeader (λ b. tt) (λ p. tt) (λ s c. tt)
