-- Parts of what a leader does, by names: what a call comes to in a phase, after a step of a scout or with a verdict.
use Rattle.std.proofs.Common.{ℕ, List, [], Option, Some, Bool, true, if◌then◌else◌}
use Rattle.std.specs.Prelude.{fold}
use Rattle.std.specs.List.{flat_map}
use Rattle.std.specs.Option.{option_map_or}
use Rattle.ballot.specs.Ballots.{BallotNumber, below, same_ballot, next_ballot}
use Rattle.ballot.specs.Sends.{Move, stays, to_all}
use Rattle.ballot.specs.Slots.{at_slot, with_slot, without_slot}
use Rattle.ballot.specs.declared.pvalue.PValue.{PValue}
use Rattle.ballot.specs.declared.message.Promise.{Promise}
use Rattle.ballot.specs.declared.message.Vote.{Vote}
use Rattle.ballot.specs.declared.message.Message.TheVariants.{P1a}
use Rattle.ballot.specs.declared.outgoing.Outgoing.{Outgoing}
use Rattle.proposer.specs.Quorums.{Pending, left_by}
use Rattle.proposer.specs.Scouts.{ScoutState, new_scout, scout_step, progress_of}
use Rattle.proposer.specs.Commanders.{CommanderState}
use Rattle.proposer.specs.declared.scout.Progress.{Progress}
use Rattle.proposer.specs.declared.scout.Progress.TheVariants.{Adopted, Preempted}
use Rattle.proposer.specs.declared.commander.Verdict.{Verdict}
use Rattle.proposer.specs.declared.commander.Verdict.TheVariants.{Decided}
use Rattle.proposer.specs.declared.commander.Verdict.TheVariants as vote
use Rattle.leader.specs.Leaders.{Phase, Passive, Scouting, Active, Over, LeaderState, commander_for, keeps_proposal, preempted, p2a, adopts}
use Rattle.leader.specs.Parts.{decision, after_vote, verdict_on}

module _ {C : Type 0} where
  abbrev pub in_phase : LeaderState C → Phase C → LeaderState C
  in_phase l phase = record { me = l.me; size = l.size; ballot = l.ballot; proposals = l.proposals; phase = phase }

  abbrev pub with_proposals : LeaderState C → List (ℕ × C) → LeaderState C
  with_proposals l proposals = record { me = l.me; size = l.size; ballot = l.ballot; proposals = proposals; phase = l.phase }

  abbrev pub with_proposal : LeaderState C → ℕ → C → Phase C → LeaderState C
  with_proposal l s c phase = record { me = l.me; size = l.size; ballot = l.ballot; proposals = with_slot s c l.proposals; phase = phase }

  -- the pvalue in its slot, if none is there or one of a lower ballot
  abbrev pub if_better : Option (PValue C) → PValue C → List (ℕ × PValue C) → List (ℕ × PValue C)
  if_better o p best = if option_map_or (λ q. below q.ballot p.ballot) o true then with_slot p.slot p best else best

  -- a commander for each proposal
  abbrev pub commanders_for : LeaderState C → List (ℕ × Pending CommanderState)
  commanders_for l = fold (λ all e. with_slot e.0 (commander_for l e.0) all) [] l.proposals

  -- with this ballot from now on, or with none left
  abbrev pub goes_on : LeaderState C → Option BallotNumber → LeaderState C
  goes_on l o = option_map_or (λ b. record l { ballot = b; phase = Passive }) o (record l { phase = Over })

  abbrev pub yields_in : LeaderState C → BallotNumber → Phase C → LeaderState C
  yields_in l b phase = elim phase [ Over ↦ l | _ ↦ goes_on l (next_ballot b l.me) ]

module _ {C A : Type 0} where
  -- all acceptors are asked for each proposal
  abbrev pub p2as : LeaderState C → List (Outgoing C A)
  p2as l = flat_map (λ e. p2a l e.0 e.1) l.proposals

  -- for the proposal of a slot, if there is one
  abbrev pub p2a_again : LeaderState C → ℕ → Option C → List (Outgoing C A)
  p2a_again l s o = option_map_or (p2a l s) o []

  abbrev pub proposed_at : LeaderState C → ℕ → C → Option C → Move (LeaderState C) C A
  proposed_at l s c o = option_map_or (λ d. stays l) o (keeps_proposal l s c l.phase)

  abbrev pub campaigned_in : LeaderState C → Phase C → Move (LeaderState C) C A
  campaigned_in l phase =
      let now : LeaderState C = record l { phase = Scouting (record { size = l.size; state = Some (new_scout l.ballot) }) } in
      elim phase [ Passive ↦ record { after = now; sends = to_all l.size (P1a l.ballot) } | _ ↦ stays l ]

  abbrev pub adopted_in : LeaderState C → BallotNumber → List (PValue C) → Phase C → Move (LeaderState C) C A
  adopted_in l b ps phase = elim phase [ Scouting scout ↦ if same_ballot b l.ballot then adopts l ps else stays l | _ ↦ stays l ]

  abbrev pub on_progress : LeaderState C → Progress C A → Move (LeaderState C) C A
  on_progress l progress = elim progress [ Adopted ps ↦ adopts l ps | Preempted b ↦ preempted l b | _ ↦ stays l ]

  abbrev pub after_promise : (C → C → Bool) → Pending (ScoutState C) → ℕ → Promise C A → Pending (ScoutState C)
  after_promise eq scout from p = record { size = scout.size; state = left_by scout.state (scout_step eq scout from p) }

  abbrev pub hears_promise_in : (C → C → Bool) → LeaderState C → ℕ → Promise C A → Phase C → Move (LeaderState C) C A
  hears_promise_in eq l from p phase = elim phase [
    | Scouting scout ↦ on_progress (in_phase l (Scouting (after_promise eq scout from p))) (progress_of (scout_step eq scout from p))
    | _ ↦ stays l
  ]

  abbrev pub on_verdict : LeaderState C → List (ℕ × Pending CommanderState) → ℕ → Verdict → Move (LeaderState C) C A
  on_verdict l ks s verdict = elim verdict [
    | Decided ↦ record { after = in_phase l (Active (without_slot s ks)); sends = decision l s (at_slot s l.proposals) }
    | vote.Preempted b ↦ preempted (in_phase l (Active ks)) b
    | _ ↦ stays (in_phase l (Active ks))
  ]

  abbrev pub hears_vote_in : LeaderState C → ℕ → Vote → Phase C → Move (LeaderState C) C A
  hears_vote_in l from v phase = elim phase [
    | Active ks ↦ on_verdict l (after_vote ks from v (at_slot v.slot ks)) v.slot (verdict_on (at_slot v.slot ks) from v)
    | _ ↦ stays l
  ]
