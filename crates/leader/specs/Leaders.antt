-- Leaders: what each call sends, and what the leader then is. Commands are compared by eq.
use Rattle.std.specs.Prelude.{◌≡◌, refl, ℕ, List, [], ◌∷◌, Option, Some, None, option_map, Result, OnOk, IfOk, IsErr, OnErr, fold, Bool, true, false, if◌then◌else◌}
use Rattle.std.specs.List.{flat_map}
use Rattle.std.specs.Option.{option_map_or}
use Rattle.ballot.specs.Ballots.{BallotNumber, below, same_ballot, next_ballot}
use Rattle.ballot.specs.Sends.{Move, stays, to_all}
use Rattle.ballot.specs.Slots.{at_slot, with_slot, set_slot, without_slot}
use Rattle.ballot.specs.declared.memory.Memory.{Memory}
use Rattle.ballot.specs.declared.pvalue.PValue.{PValue}
use Rattle.ballot.specs.declared.message.Promise.{Promise}
use Rattle.ballot.specs.declared.message.Vote.{Vote}
use Rattle.ballot.specs.declared.message.Message.TheVariants.{P1a, P2a, Decision}
use Rattle.ballot.specs.declared.outgoing.Outgoing.{Outgoing}
use Rattle.proposer.specs.Quorums.{Pending, Step, left_by}
use Rattle.proposer.specs.Scouts.{ScoutState, scout_step, progress_of}
use Rattle.proposer.specs.Commanders.{CommanderState, commander_step, verdict_of}
use Rattle.proposer.specs.declared.scout.Progress.TheVariants.{Adopted, Preempted}
use Rattle.proposer.specs.declared.commander.Verdict.TheVariants.{Decided}
use Rattle.proposer.specs.declared.commander.Verdict.TheVariants as vote

-- what a leader is doing
pub data Phase (C : Type 0) : Type 0 where
  Passive : Phase C
  -- it asks for its ballot
  Scouting : (scout : Pending (ScoutState C)) → Phase C
  -- it has its ballot, and these commanders wait, in slot order
  Active : (commanders : List (ℕ × Pending CommanderState)) → Phase C
  -- passive for ever, since no ballot is left to it
  Over : Phase C

-- who it is, its ballot, and its proposals, one for a slot, in slot order
pub record LeaderState (C : Type 0) : Type 0 where
  pub me : ℕ
  pub size : ℕ
  pub ballot : BallotNumber
  pub proposals : List (ℕ × C)
  pub phase : Phase C

-- a call of a leader, none if it is spent: if it answers, the leader and the sends are those of the move, else it is spent
pub record IsMoved {C A : Type 0} (move : LeaderState C → Move (LeaderState C) C A) (old new : Option (LeaderState C)) (result : Result (List (Outgoing C A)) Memory) : Type 0 where
  pub leader : OnOk result (new ≡ option_map (λ l. (move l).after) old)
  pub sends : (l : LeaderState C) → old ≡ Some l → IfOk result (λ sends. sends ≡ (move l).sends)
  pub spent : old ≡ None → IsErr result
  pub err : OnErr result (new ≡ None)

module _ {C : Type 0} where
  -- passive, with the lowest ballot of its node and no proposals
  abbrev pub new_leader : ℕ → ℕ → LeaderState C
  new_leader me n = record { me = me; size = n; ballot = record { round = 0; leader = me }; proposals = []; phase = Passive }

  abbrev pub phase_is_active : Phase C → Bool
  phase_is_active (Active commanders) = true
  phase_is_active _ = false

  abbrev pub phase_is_passive : Phase C → Bool
  phase_is_passive Passive = true
  phase_is_passive _ = false

  abbrev pub phase_is_scouting : Phase C → Bool
  phase_is_scouting (Scouting scout) = true
  phase_is_scouting _ = false

  -- the pvalue in its slot, unless one of at least its ballot is there
  abbrev pub keep_better : List (ℕ × PValue C) → PValue C → List (ℕ × PValue C)
  keep_better best p =
      if option_map_or (λ q. below q.ballot p.ballot) (at_slot p.slot best) true then with_slot p.slot p best else best

  -- for each slot of the pvalues the one of the highest ballot, the first at a tie
  abbrev pub best_pvalues : List (PValue C) → List (ℕ × PValue C)
  best_pvalues ps = fold keep_better [] ps

  -- the proposals, with the commands of these pvalues in place of those of their slots
  abbrev pub replaced : List (ℕ × C) → List (ℕ × PValue C) → List (ℕ × C)
  replaced proposals best = fold (λ all e. with_slot e.0 e.1.command all) proposals best

  -- a new commander for its proposal of the slot
  abbrev pub commander_for : LeaderState C → ℕ → Pending CommanderState
  commander_for l s = record { size = l.size; state = Some (record { ballot = l.ballot; slot = s; heard = [] }) }

  -- a higher ballot ends what the leader does: it is passive with its next ballot above that, and for ever if none is left
  abbrev pub yields : LeaderState C → BallotNumber → LeaderState C
  yields l b =
      let over : LeaderState C = record l { phase = Over } in
      let next : LeaderState C = option_map_or (λ own. record l { ballot = own; phase = Passive }) (next_ballot b l.me) over in
      if below l.ballot b then elim l.phase [ Over ↦ l | _ ↦ next ] else l

module _ {C A : Type 0} where
  -- all acceptors are asked to accept the command in the slot
  abbrev pub p2a : LeaderState C → ℕ → C → List (Outgoing C A)
  p2a l s c = to_all l.size (P2a (record { ballot = l.ballot; slot = s; command = c }))

  -- Propose: a slot without a proposal keeps this one, and an active leader asks for it
  abbrev pub keeps_proposal : LeaderState C → ℕ → C → Phase C → Move (LeaderState C) C A
  keeps_proposal l s c (Active ks) =
      let now : Phase C = Active (with_slot s (commander_for l s) ks) in
      record { after = record l { proposals = with_slot s c l.proposals; phase = now }; sends = p2a l s c }
  keeps_proposal l s c phase = stays (record l { proposals = with_slot s c l.proposals; phase = phase })

  abbrev pub proposed : LeaderState C → ℕ → C → Move (LeaderState C) C A
  proposed l s c = option_map_or (λ d. stays l) (at_slot s l.proposals) (keeps_proposal l s c l.phase)

  -- Campaign: a passive leader starts a scout
  abbrev pub campaigned : LeaderState C → Move (LeaderState C) C A
  campaigned l =
      let scout : ScoutState C = record { ballot = l.ballot; heard = []; pvalues = [] } in
      let now : LeaderState C = record l { phase = Scouting (record { size = l.size; state = Some scout }) } in
      elim l.phase [ Passive ↦ record { after = now; sends = to_all l.size (P1a l.ballot) } | _ ↦ stays l ]

  -- another's ballot
  abbrev pub preempted : LeaderState C → BallotNumber → Move (LeaderState C) C A
  preempted l b = stays (yields l b)

  -- it leads: a commander for each proposal
  abbrev pub leads : LeaderState C → Move (LeaderState C) C A
  leads l =
      let now : Phase C = Active (fold (λ all e. with_slot e.0 (commander_for l e.0) all) [] l.proposals) in
      record { after = record l { phase = now }; sends = flat_map (λ e. p2a l e.0 e.1) l.proposals }

  -- a majority of promises that told these pvalues: it leads with them
  abbrev pub adopts : LeaderState C → List (PValue C) → Move (LeaderState C) C A
  adopts l ps = leads (record l { proposals = replaced l.proposals (best_pvalues ps) })

  -- the same for this ballot, if a scout asks for it
  abbrev pub adopted : LeaderState C → BallotNumber → List (PValue C) → Move (LeaderState C) C A
  adopted l b ps = elim l.phase [ Scouting scout ↦ if same_ballot b l.ballot then adopts l ps else stays l | _ ↦ stays l ]

  -- P1b: its scout hears the promise
  abbrev pub hears_promise : (C → C → Bool) → LeaderState C → ℕ → Promise C A → Move (LeaderState C) C A
  hears_promise eq l from p = elim l.phase [
    | Scouting scout ↦
        let step : Step (ScoutState C) (List (PValue C)) = scout_step eq scout from p in
        let now : LeaderState C = record l { phase = Scouting (record scout { state = left_by scout.state step }) } in
        elim (progress_of {A = A} step) [ Adopted ps ↦ adopts now ps | Preempted b ↦ stays (yields now b) | _ ↦ stays now ]
    | _ ↦ stays l
  ]

  -- P2b: the commander of its slot hears the vote. Once it has decided it is gone, and the decision goes to all nodes
  abbrev pub hears_vote : LeaderState C → ℕ → Vote → Move (LeaderState C) C A
  hears_vote l from v = elim l.phase [
    | Active ks ↦
        let step : Pending CommanderState → Step CommanderState (Unit {0}) = λ k. commander_step k from v in
        let left : Pending CommanderState → Pending CommanderState = λ k. record k { state = left_by k.state (step k) } in
        let heard : List (ℕ × Pending CommanderState) = option_map_or (λ k. set_slot v.slot (left k) ks) (at_slot v.slot ks) ks in
        let now : LeaderState C = record l { phase = Active heard } in
        let news : List (Outgoing C A) = option_map_or (λ c. to_all l.size (Decision v.slot c)) (at_slot v.slot l.proposals) [] in
        elim (option_map_or (λ k. verdict_of (step k)) (at_slot v.slot ks) vote.Stale) [
          | Decided ↦ record { after = record l { phase = Active (without_slot v.slot heard) }; sends = news }
          | vote.Preempted b ↦ stays (yields now b)
          | _ ↦ stays now
        ]
    | _ ↦ stays l
  ]

  -- Tick: what the scout or the commanders ask, again
  abbrev pub asked_again : LeaderState C → Phase C → List (Outgoing C A)
  asked_again l (Scouting scout) = to_all l.size (P1a l.ballot)
  asked_again l (Active ks) = flat_map (λ k. option_map_or (p2a l k.0) (at_slot k.0 l.proposals) []) ks
  asked_again l phase = []

  abbrev pub leader_ticks : LeaderState C → Move (LeaderState C) C A
  leader_ticks l = record { after = l; sends = asked_again l l.phase }

-- worked examples

abbrev ballot_of : ℕ → ℕ → BallotNumber
ballot_of round leader = record { round = round; leader = leader }

-- node 2 of three proposes d for slot 1, campaigns, and is told by node 1 that it accepted c there: c is asked for, and d nowhere
module _ {C : Type 0} (A : Type 0) (eq : C → C → Bool) (c d : C) where
  abbrev told : List (PValue C) → Promise C A
  told ps = record { asked = ballot_of 0 2; ballot = ballot_of 0 2; accepted = ps }

  abbrev proposing : Move (LeaderState C) C A
  proposing = proposed (new_leader 2 3) 1 d

  abbrev campaigning : Move (LeaderState C) C A
  campaigning = campaigned proposing.after

  abbrev hearing_one : Move (LeaderState C) C A
  hearing_one = hears_promise eq campaigning.after 1 (told (record { ballot = ballot_of 0 1; slot = 1; command = c } ∷ []))

  abbrev hearing_two : Move (LeaderState C) C A
  hearing_two = hears_promise eq hearing_one.after 2 (told [])

  proposing_sends : proposing.sends ≡ []
  proposing_sends = refl

  campaigning_sends : campaigning.sends ≡ record { to = 1; message = P1a (ballot_of 0 2) } ∷ record { to = 2; message = P1a (ballot_of 0 2) } ∷ record { to = 3; message = P1a (ballot_of 0 2) } ∷ []
  campaigning_sends = refl

  hearing_one_sends : hearing_one.sends ≡ []
  hearing_one_sends = refl

  abbrev asked : PValue C
  asked = record { ballot = ballot_of 0 2; slot = 1; command = c }

  hearing_two_sends : hearing_two.sends ≡ record { to = 1; message = P2a asked } ∷ record { to = 2; message = P2a asked } ∷ record { to = 3; message = P2a asked } ∷ []
  hearing_two_sends = refl

-- node 1 of three campaigns, adopts nothing for another's ballot, then its own, proposes, and is preempted by (1, 2) but not by its own ballot
module _ {C : Type 0} (A : Type 0) (c : C) where
  abbrev first : Move (LeaderState C) C A
  first = campaigned (new_leader 1 3)

  abbrev second : Move (LeaderState C) C A
  second = adopted first.after (ballot_of 0 2) []

  abbrev third : Move (LeaderState C) C A
  third = adopted second.after (ballot_of 0 1) []

  abbrev fourth : Move (LeaderState C) C A
  fourth = proposed third.after 1 c

  abbrev fifth : Move (LeaderState C) C A
  fifth = preempted fourth.after (ballot_of 0 1)

  abbrev sixth : Move (LeaderState C) C A
  sixth = preempted fifth.after (ballot_of 1 2)

  abbrev seventh : Move (LeaderState C) C A
  seventh = campaigned sixth.after

  second_is : second ≡ stays first.after
  second_is = refl

  third_sends : third.sends ≡ []
  third_sends = refl

  third_is_active : phase_is_active third.after.phase ≡ true
  third_is_active = refl

  abbrev its_first : PValue C
  its_first = record { ballot = ballot_of 0 1; slot = 1; command = c }

  fourth_sends : fourth.sends ≡ record { to = 1; message = P2a its_first } ∷ record { to = 2; message = P2a its_first } ∷ record { to = 3; message = P2a its_first } ∷ []
  fourth_sends = refl

  fifth_is : fifth ≡ stays fourth.after
  fifth_is = refl

  sixth_sends : sixth.sends ≡ []
  sixth_sends = refl

  sixth_is_passive : sixth.after.phase ≡ Passive
  sixth_is_passive = refl

  sixth_ballot : sixth.after.ballot ≡ ballot_of 2 1
  sixth_ballot = refl

  seventh_sends : seventh.sends ≡ record { to = 1; message = P1a (ballot_of 2 1) } ∷ record { to = 2; message = P1a (ballot_of 2 1) } ∷ record { to = 3; message = P1a (ballot_of 2 1) } ∷ []
  seventh_sends = refl

-- node 1 of three adopts two commands that were told for slot 1 with one ballot: it asks for the first
module _ {C : Type 0} (A : Type 0) (c d : C) where
  abbrev of_one_ballot : C → PValue C
  of_one_ballot command = record { ballot = ballot_of 0 2; slot = 1; command = command }

  first_at_a_tie : (adopted {A = A} (campaigned {A = A} (new_leader 1 3)).after (ballot_of 0 1) (of_one_ballot c ∷ of_one_ballot d ∷ [])).after.proposals ≡ (1, c) ∷ []
  first_at_a_tie = refl

-- (2^64 - 1, 2) is above each ballot of node 1: it keeps its ballot, and neither campaigns nor is preempted any more
module _ (C A : Type 0) where
  abbrev last_round : BallotNumber
  last_round = ballot_of 18446744073709551615 2

  abbrev out_of_ballots : LeaderState C
  out_of_ballots = (preempted {A = A} (new_leader 1 3) last_round).after

  keeps_its_last : out_of_ballots.ballot ≡ ballot_of 0 1
  keeps_its_last = refl

  never_campaigns : campaigned {A = A} out_of_ballots ≡ stays out_of_ballots
  never_campaigns = refl

  never_preempted : preempted {A = A} out_of_ballots last_round ≡ stays out_of_ballots
  never_preempted = refl
