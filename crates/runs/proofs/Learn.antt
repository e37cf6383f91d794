-- Each Decision that was sent, and each decision that a node keeps, is of a chosen command.
use Rattle.std.proofs.Common.{◌≡◌, ◌≢◌, ℕ, ◌+◌, ◌*◌, ◌^◌, ◌<◌, ◌≤◌, List, [], ◌∷◌, ◌++◌, Bool, true, false, Option, Some, None, IsSome, is_some, refl, sym, ap, ◌∙◌, subst, ⊎_elim, arith, cond, eqb}
use mathlib.Core.Bool.{◌&&◌}
use Rattle.std.specs.Prelude.{nat_lt}
use Rattle.std.specs.List.{flat_map}
use Rattle.std.proofs.lemmas.Bool.{true≢false, and_parts, ltb-true, leb-true}
use Rattle.ballot.specs.Ballots.{BallotNumber, below, same_ballot, next_ballot}
use Rattle.ballot.specs.Lists.{IsIn}
use Rattle.ballot.specs.Nodes.{count_to, is_among, AreDistinct}
use Rattle.ballot.specs.declared.pvalue.PValue.{PValue}
use Rattle.ballot.specs.declared.message.Promise.{Promise}
use Rattle.ballot.specs.declared.message.Vote.{Vote}
use Rattle.ballot.specs.declared.message.Message.{Message}
use Rattle.ballot.specs.declared.message.Message.TheVariants.{P2a, P2b, Decision}
use Rattle.ballot.specs.declared.message.Envelope.{Envelope}
use Rattle.ballot.specs.declared.outgoing.Outgoing.{Outgoing}
use Rattle.ballot.proofs.Count.{count_more}
use Rattle.ballot.proofs.Member.{in_left, in_right, in_either}
use Rattle.ballot.proofs.Order.{same_ballot-true}
use Rattle.ballot.proofs.Sends.{in_to_all, each_in_to_all}
use Rattle.acceptor.specs.Acceptors.{AcceptorState}
use Rattle.proposer.specs.Quorums.{Pending, Step, Waits, Wins, Yields, Ignores, left_by}
use Rattle.proposer.proofs.Parts.{is_quorum}
use Rattle.proposer.specs.Scouts.{ScoutState, scout_step, progress_of}
use Rattle.proposer.specs.Commanders.{CommanderState, commander_hears, verdict_of}
use Rattle.proposer.proofs.Parts.{commander_counts, with_vote}
use Rattle.proposer.specs.declared.scout.Progress.{Progress}
use Rattle.proposer.specs.declared.scout.Progress.TheVariants.{Waiting, Adopted, Preempted, Stale}
use Rattle.proposer.proofs.Heard.{answered_waits, waits_if, among_cases}
use Rattle.proposer.proofs.Wins.{Counts, is_win, answered_wins, quorum_majority, wins_if}
use Rattle.leader.specs.Leaders.{LeaderState, Phase, Passive, Scouting, Active, Over, commander_for, yields, p2a, keeps_proposal, proposed, best_pvalues, replaced, adopts}
use Rattle.leader.proofs.Parts.{in_phase, goes_on, yields_in, p2as, proposed_at, campaigned_in, with_proposals, after_promise, on_progress, hears_promise_in, on_verdict, hears_vote_in}
use Rattle.leader.specs.Parts.{decision, after_vote, verdict_on}
use Rattle.ballot.specs.Sends.{Move}
use Rattle.ballot.specs.Slots.{at_slot, with_slot, set_slot, without_slot}
use Rattle.leader.specs.Calls.{Call, Proposes, HearsPromise, HearsVote, Adopts, IsPreempted, Campaigns, Ticks, called, Asks, IsOrderly}
use Rattle.leader.proofs.Slots.{at_slot-with_slot, at_slot-with_other, at_slot-among, in_with_slot, in_set_slot, in_without_set}
use Rattle.leader.proofs.Orderly.{in_commanders}
use Rattle.runs.specs.Chosen.{asked, voted, IsChosen}
use Rattle.runs.proofs.Chosen.{vote_of, sent_by, in_sent_by, sent_voted, asks_sent, asked_more, asked_now, voted_more, chosen_more}
use Rattle.runs.proofs.Invariant.{Roles, put, moved, Sound}
use Rattle.runs.proofs.Grow.{put_each}
use Rattle.runs.proofs.LeaderSends.{IsNoVote, asking_sends}
use Rattle.runs.proofs.LeaderSteps.{IsHeard}

module _ {C A : Type 0} where
  -- the commander's pvalue was asked for, and each node that it has heard voted
  abbrev pub IsVoted : ℕ → List (Envelope C A) → BallotNumber → ℕ × Pending CommanderState → C → Type 0
  IsVoted size sent b k c =
      (0 < size → IsIn (record { ballot = b; slot = k.0; command = c }) (asked sent))
      × ((s : CommanderState) → k.1.state ≡ Some s → (m : ℕ) → is_among m s.heard ≡ true → voted sent b k.0 m ≡ true)

  abbrev pub AreVoted : ℕ → List (Envelope C A) → BallotNumber → List (ℕ × C) → Phase C → Type 0
  AreVoted size sent b proposals (Active ks) = (k : ℕ × Pending CommanderState) → IsIn k ks → (c : C) → at_slot k.0 proposals ≡ Some c → IsVoted size sent b k c
  AreVoted size sent b proposals _ = Unit {0}

  abbrev pub AreLeaderVoted : ℕ → List (Envelope C A) → LeaderState C → Type 0
  AreLeaderVoted size sent l = AreVoted size sent l.ballot l.proposals l.phase

  -- what holds of all Decisions that were sent, and of those that each node keeps
  pub record Learned (w : Roles C A) (decisions : ℕ → List (ℕ × C)) : Type 0 where
    pub commanders : (n : ℕ) → AreLeaderVoted w.size w.sent (w.leaders n)
    pub told : (from to s : ℕ) (c : C) → IsIn (record { from = from; to = to; message = Decision s c }) w.sent → IsChosen w.size w.sent s c
    pub known : (n s : ℕ) (c : C) → at_slot s (decisions n) ≡ Some c → IsChosen w.size w.sent s c

  -- what a step of a node has to show
  pub record Learns (w : Roles C A) (n : ℕ) (l : LeaderState C) (sends : List (Outgoing C A)) (decisions : List (ℕ × C)) : Type 0 where
    pub commanders : AreLeaderVoted w.size (w.sent ++ sent_by n sends) l
    pub tells : (to s : ℕ) (c : C) → IsIn (record { to = to; message = Decision s c }) sends → IsChosen w.size w.sent s c
    pub knows : (s : ℕ) (c : C) → at_slot s decisions ≡ Some c → IsChosen w.size w.sent s c

  voted_on : (size : ℕ) (sent more : List (Envelope C A)) (b : BallotNumber) (k : ℕ × Pending CommanderState) (c : C) → IsVoted size sent b k c → IsVoted size (sent ++ more) b k c
  voted_on size sent more b k c h = (λ pos. asked_more sent more (record { ballot = b; slot = k.0; command = c }) (h.0 pos), λ s e m t. voted_more sent more b k.0 m (h.1 s e m t))

  pub all_voted_on : (size : ℕ) (sent more : List (Envelope C A)) (b : BallotNumber) (proposals : List (ℕ × C)) (phase : Phase C) →
      AreVoted size sent b proposals phase → AreVoted size (sent ++ more) b proposals phase
  all_voted_on size sent more b proposals Passive h = tt
  all_voted_on size sent more b proposals (Scouting scout) h = tt
  all_voted_on size sent more b proposals (Active ks) h = λ k i c e. voted_on size sent more b k c (h k i c e)
  all_voted_on size sent more b proposals Over h = tt

  pub learned_step : (w : Roles C A) (decisions : ℕ → List (ℕ × C)) → Learned w decisions → (n : ℕ) (a : AcceptorState C) (l : LeaderState C) (sends : List (Outgoing C A)) (its : List (ℕ × C)) →
      Learns w n l sends its → Learned (moved w n a l sends) (put decisions n its)
  learned_step w decisions i n a l sends its h =
      record {
        commanders =
            put_each (λ k (y : LeaderState C). AreLeaderVoted w.size (w.sent ++ more) y) w.leaders n l h.commanders
            (λ m ne. all_voted_on w.size w.sent more (w.leaders m).ballot (w.leaders m).proposals (w.leaders m).phase (i.commanders m));
        told = λ from to s c j.
            chosen_more w.size w.sent more s c
            (⊎_elim (λ old. i.told from to s c old) (λ new. h.tells to s c (in_sent_by n sends _ new).1) (in_either _ w.sent more j));
        known = λ k s c e.
            chosen_more w.size w.sent more s c
            (put_each (λ j (y : List (ℕ × C)). at_slot s y ≡ Some c → IsChosen w.size w.sent s c) decisions n its (h.knows s c) (λ m ne. i.known m s c) k e);
      }
    where
      more : List (Envelope C A)
      more = sent_by n sends

  -- a leader that stays as it is
  pub unmoved_voted : (w : Roles C A) (decisions : ℕ → List (ℕ × C)) → Learned w decisions → (n : ℕ) (sends : List (Outgoing C A)) → AreLeaderVoted w.size (w.sent ++ sent_by n sends) (w.leaders n)
  unmoved_voted w decisions i n sends = all_voted_on w.size w.sent (sent_by n sends) (w.leaders n).ballot (w.leaders n).proposals (w.leaders n).phase (i.commanders n)

  abbrev IsNoDecision : Message C A → Type 0
  IsNoDecision (Decision s c) = ⊥
  IsNoDecision _ = Unit {0}

-- the calls of a leader
module _ {C A : Type 0} (w : Roles C A) (n : ℕ) where
  abbrev After : LeaderState C → List (Outgoing C A) → Type 0
  After l sends = AreLeaderVoted w.size (w.sent ++ sent_by n sends) l

  -- a new commander has heard nobody, and its pvalue is asked for
  new_voted : (l : LeaderState C) (s : ℕ) (c : C) (sends : List (Outgoing C A)) → (0 < w.size → Asks sends (record { ballot = l.ballot; slot = s; command = c })) →
      IsVoted w.size (w.sent ++ sent_by n sends) l.ballot (s, commander_for l s) c
  new_voted l s c sends asks = (
    λ pos. asked_now w.sent (sent_by n sends) (record { ballot = l.ballot; slot = s; command = c }) (asks_sent n sends (record { ballot = l.ballot; slot = s; command = c }) (asks pos)),
    λ k e m t. let fresh : record { ballot = l.ballot; slot = s; heard = [] } ≡ k = cc in absurd (true≢false (sym (subst (λ (x : CommanderState). is_among m x.heard ≡ true) (sym fresh) t))),
  )

  p2a_asks : (l : LeaderState C) (s : ℕ) (c : C) → l.size ≡ w.size → 0 < w.size → Asks {A = A} (p2a l s c) (record { ballot = l.ballot; slot = s; command = c })
  p2a_asks l s c same pos =
      let low : 1 ≤ l.size = subst (λ k. 1 ≤ k) (sym same) (omega (arith, pos)) in
      (1, each_in_to_all l.size 1 (P2a (record { ballot = l.ballot; slot = s; command = c })) (omega arith) low)

  in_flat : {X : Type 0} (f : X → List (Outgoing C A)) (xs : List X) (x : X) (o : Outgoing C A) → IsIn x xs → IsIn o (f x) → IsIn o (flat_map f xs)
  in_flat f [] x o i h = absurd i
  in_flat {X} f (y ∷ xs) x o i h =
      ⊎_elim (λ (e : y ≡ x). in_left o (f y) (flat_map f xs) (subst (λ (z : X). IsIn o (f z)) (sym e) h)) (λ t. in_right o (f y) (flat_map f xs) (in_flat f xs x o t h)) i

  some_same : (c d : C) → Some c ≡ Some d → c ≡ d
  some_same c d e = cc

  -- Propose
  proposal_voted : (l : LeaderState C) (s : ℕ) (c : C) (phase : Phase C) → IsOrderly n w.size (in_phase l phase) → at_slot s l.proposals ≡ None → AreVoted w.size w.sent l.ballot l.proposals phase →
      After (keeps_proposal {A = A} (in_phase l phase) s c phase).after (keeps_proposal {A = A} (in_phase l phase) s c phase).sends
  proposal_voted l s c Passive o free h = tt
  proposal_voted l s c (Scouting scout) o free h = tt
  proposal_voted l s c (Active ks) o free h =
      λ k j d e.
      ⊎_elim
      (λ (q : (s, commander_for l s) ≡ k).
      let at : at_slot s (with_slot s c l.proposals) ≡ Some d = subst (λ (x : ℕ × Pending CommanderState). at_slot x.0 (with_slot s c l.proposals) ≡ Some d) (sym q) e in
      let is : c ≡ d = some_same c d (sym (at_slot-with_slot s c l.proposals) ∙ at) in
      subst (λ (x : ℕ × Pending CommanderState). IsVoted w.size (w.sent ++ sent_by n sends) l.ballot x d) q
      (subst (IsVoted w.size (w.sent ++ sent_by n sends) l.ballot (s, commander_for l s)) is (new_voted l s c sends (p2a_asks l s c o.its_cluster))))
      (λ (old : IsIn k ks).
      let has : IsSome (at_slot k.0 l.proposals) = (o.waits.1 k old).1 in
      let other : k.0 ≢ s = λ q. absurd (true≢false (sym (subst (λ t. is_some (at_slot t l.proposals) ≡ true) q has) ∙ ap is_some free)) in
      voted_on w.size w.sent (sent_by n sends) l.ballot k d (h k old d (sym (at_slot-with_other s k.0 c l.proposals other) ∙ e)))
      (in_with_slot s (commander_for l s) ks k j)
    where
      sends : List (Outgoing C A)
      sends = p2a l s c
  proposal_voted l s c Over o free h = tt

  proposed_voted : (l : LeaderState C) (s : ℕ) (c : C) → IsOrderly n w.size l → AreLeaderVoted w.size w.sent l → After (proposed {A = A} l s c).after (proposed {A = A} l s c).sends
  proposed_voted l s c o h =
      go (at_slot s l.proposals) refl
    where
      go : (d : Option C) → at_slot s l.proposals ≡ d → After (proposed_at {A = A} l s c d).after (proposed_at {A = A} l s c d).sends
      go None free = proposal_voted l s c l.phase o free h
      go (Some d) e = all_voted_on w.size w.sent (sent_by n []) l.ballot l.proposals l.phase h

  -- Campaign
  campaign_voted : (l : LeaderState C) (phase : Phase C) → AreVoted w.size w.sent l.ballot l.proposals phase →
      After (campaigned_in {A = A} (in_phase l phase) phase).after (campaigned_in {A = A} (in_phase l phase) phase).sends
  campaign_voted l Passive h = tt
  campaign_voted l (Scouting scout) h = tt
  campaign_voted l (Active ks) h = all_voted_on w.size w.sent (sent_by n []) l.ballot l.proposals (Active ks) h
  campaign_voted l Over h = tt

  -- a higher ballot
  goes_on_voted : (l : LeaderState C) (b : BallotNumber) (sends : List (Outgoing C A)) → After (goes_on l (next_ballot b l.me)) sends
  goes_on_voted l b sends =
      go (nat_lt (b.round + 1) (2 ^ 64))
    where
      go : (t : Bool) → After (goes_on l (cond t (Some (record { round = b.round + 1; leader = l.me })) None)) sends
      go true = tt
      go false = tt

  yielding_voted : (l : LeaderState C) (phase : Phase C) (b : BallotNumber) (sends : List (Outgoing C A)) → After (yields_in (in_phase l phase) b phase) sends
  yielding_voted l Passive b sends = goes_on_voted (in_phase l Passive) b sends
  yielding_voted l (Scouting scout) b sends = goes_on_voted (in_phase l (Scouting scout)) b sends
  yielding_voted l (Active ks) b sends = goes_on_voted (in_phase l (Active ks)) b sends
  yielding_voted l Over b sends = tt

  yields_voted : (l : LeaderState C) (b : BallotNumber) (sends : List (Outgoing C A)) → After l sends → After (yields l b) sends
  yields_voted l b sends h =
      go (below l.ballot b)
    where
      go : (t : Bool) → After (cond t (yields_in l b l.phase) l) sends
      go true = yielding_voted l l.phase b sends
      go false = h

  -- an adoption
  adoption_voted : (l : LeaderState C) (ps : List (PValue C)) → l.size ≡ w.size → After (adopts {A = A} l ps).after (adopts {A = A} l ps).sends
  adoption_voted l ps same =
      λ k j d e.
      ⊎_elim
      (λ (none : IsIn k []). absurd none)
      (λ (x : (f : ℕ × C) × IsIn f proposals × ((f.0, commander_for leads f.0) ≡ k)).
      let at : at_slot x.0.0 proposals ≡ Some d = subst (λ (y : ℕ × Pending CommanderState). at_slot y.0 proposals ≡ Some d) (sym x.2) e in
      subst (λ (y : ℕ × Pending CommanderState). IsVoted w.size (w.sent ++ sent_by n sends) l.ballot y d) x.2
      (new_voted leads x.0.0 d sends (λ pos. asks_slot x.0.0 d at pos)))
      (in_commanders A n w.size leads proposals [] k j)
    where
      proposals : List (ℕ × C)
      proposals = replaced l.proposals (best_pvalues ps)

      leads : LeaderState C
      leads = with_proposals l proposals

      sends : List (Outgoing C A)
      sends = p2as leads

      asks_slot : (s : ℕ) (d : C) → at_slot s proposals ≡ Some d → 0 < w.size → Asks sends (record { ballot = l.ballot; slot = s; command = d })
      asks_slot s d at pos =
          let y = p2a_asks leads s d same pos in
          (y.0, in_flat (λ e. p2a leads e.0 e.1) proposals (s, d) _ (at_slot-among s d proposals at) y.1)

  -- P1b
  progress_voted : (l : LeaderState C) (scout : Pending (ScoutState C)) (progress : Progress C A) → l.size ≡ w.size →
      After (on_progress (in_phase l (Scouting scout)) progress).after (on_progress (in_phase l (Scouting scout)) progress).sends
  progress_voted l scout Waiting same = tt
  progress_voted l scout (Adopted ps) same = adoption_voted (in_phase l (Scouting scout)) ps same
  progress_voted l scout (Preempted b) same = yields_voted (in_phase l (Scouting scout)) b [] tt
  progress_voted l scout Stale same = tt

  promise_voted : (eq : C → C → Bool) (l : LeaderState C) (from : ℕ) (p : Promise C A) (phase : Phase C) → l.size ≡ w.size → AreVoted w.size w.sent l.ballot l.proposals phase →
      After (hears_promise_in eq (in_phase l phase) from p phase).after (hears_promise_in eq (in_phase l phase) from p phase).sends
  promise_voted eq l from p Passive same h = tt
  promise_voted eq l from p (Scouting scout) same h = progress_voted l (after_promise eq scout from p) (progress_of (scout_step eq scout from p)) same
  promise_voted eq l from p (Active ks) same h = all_voted_on w.size w.sent (sent_by n []) l.ballot l.proposals (Active ks) h
  promise_voted eq l from p Over same h = tt

  -- a commander of the leader hears a vote that was sent
  module _ (l : LeaderState C) (ks : List (ℕ × Pending CommanderState)) (k : CommanderState) (from : ℕ) (v : Vote)
      (h : AreVoted w.size w.sent l.ballot l.proposals (Active ks)) (mine : k.ballot ≡ l.ballot) (here : k.slot ≡ v.slot) (distinct : AreDistinct w.size k.heard)
      (among : IsIn (v.slot, record { size = w.size; state = Some k }) ks) (to : ℕ) (sent : IsIn (record { from = from; to = to; message = P2b v }) w.sent) where
    abbrev fits : Bool
    fits = same_ballot v.asked k.ballot && eqb v.slot k.slot

    -- the vote, if it is counted
    counted_voted : Counts w.size k.ballot k.heard from fits v.ballot → (c : C) → at_slot v.slot l.proposals ≡ Some c → (m : ℕ) → is_among m (from ∷ k.heard) ≡ true →
        voted w.sent l.ballot v.slot m ≡ true
    counted_voted counts c at m t =
        let parts = and_parts _ _ counts.1 in
        let asks : v.asked ≡ l.ballot = same_ballot-true v.asked k.ballot parts.0 ∙ mine in
        let answers : v.ballot ≡ l.ballot = counts.2 ∙ mine in
        let is : v ≡ vote_of l.ballot v.slot = λ i. record { asked = asks i; slot = v.slot; ballot = answers i } in
        ⊎_elim
        (λ (q : m ≡ from). subst (λ j. voted w.sent l.ballot v.slot j ≡ true) (sym q) (sent_voted w.sent l.ballot v.slot from (to, subst (λ x. IsIn (record { from = from; to = to; message = P2b x }) w.sent) is sent)))
        (λ q. (h (v.slot, record { size = w.size; state = Some k }) among c at).1 k refl m q)
        (among_cases m from k.heard t)

    -- if its state is another, what it has heard has voted
    set_voted : (state : Option CommanderState) → ((s : CommanderState) → state ≡ Some s → (c : C) → at_slot v.slot l.proposals ≡ Some c → (m : ℕ) → is_among m s.heard ≡ true → voted w.sent l.ballot v.slot m ≡ true) →
        AreVoted w.size w.sent l.ballot l.proposals (Active (set_slot v.slot (record { size = w.size; state = state }) ks))
    set_voted state g j i c e =
        ⊎_elim
        (λ (q : (v.slot, record { size = w.size; state = state }) ≡ j).
        let at : at_slot v.slot l.proposals ≡ Some c = subst (λ (x : ℕ × Pending CommanderState). at_slot x.0 l.proposals ≡ Some c) (sym q) e in
        subst (λ (x : ℕ × Pending CommanderState). IsVoted w.size w.sent l.ballot x c) q
        ((h (v.slot, record { size = w.size; state = Some k }) among c at).0, λ s f. g s f c at))
        (λ old. h j old c e)
        (in_set_slot v.slot (record { size = w.size; state = state }) ks j i)

    abbrev Shown : Step CommanderState (Unit {0}) → Type 0
    Shown step =
        let move : Move (LeaderState C) C A = on_verdict (in_phase l (Active ks)) (set_slot v.slot (record { size = w.size; state = left_by (Some k) step }) ks) v.slot (verdict_of step) in
        After move.after move.sends × ((to s : ℕ) (c : C) → IsIn (record { to = to; message = Decision s c }) move.sends → IsChosen w.size w.sent s c)

    -- what a majority voted for is chosen
    decided_chosen : (c : C) → at_slot v.slot l.proposals ≡ Some c → Counts w.size k.ballot k.heard from fits v.ballot → is_quorum w.size (from ∷ k.heard) ≡ true → IsChosen w.size w.sent v.slot c
    decided_chosen c at counts quorum =
        let majority : w.size < 2 * count_to w.size (λ m. is_among m (from ∷ k.heard)) = (quorum_majority w.size (from ∷ k.heard) (counts.0, counts.3, distinct)).0 quorum in
        let more : count_to w.size (λ m. is_among m (from ∷ k.heard)) ≤ count_to w.size (voted w.sent l.ballot v.slot) = count_more w.size (λ m. is_among m (from ∷ k.heard)) (voted w.sent l.ballot v.slot) (counted_voted counts c at) in
        let parts = and_parts _ _ counts.0 in
        let low : 0 < from = ltb-true 0 from parts.0 in
        let high : from ≤ w.size = leb-true from w.size parts.1 in
        (l.ballot, ((h (v.slot, record { size = w.size; state = Some k }) among c at).0 (omega arith), omega arith))

    decision_chosen : (o : Option C) → at_slot v.slot l.proposals ≡ o → Counts w.size k.ballot k.heard from fits v.ballot → is_quorum w.size (from ∷ k.heard) ≡ true →
        (to s : ℕ) (c : C) → IsIn (record { to = to; message = Decision s c }) (decision {A = A} (in_phase l (Active ks)) v.slot o) → IsChosen w.size w.sent s c
    decision_chosen None at counts quorum to s c j = absurd j
    decision_chosen (Some d) at counts quorum to s c j =
        let same = in_to_all l.size (Decision v.slot d) _ j in
        let slots : v.slot ≡ s = cc in
        let commands : d ≡ c = cc in
        subst (λ t. IsChosen w.size w.sent t c) slots (subst (IsChosen w.size w.sent v.slot) commands (decided_chosen d at counts quorum))

    vote_shown : (step : Step CommanderState (Unit {0})) → commander_hears w.size k from v ≡ step → Shown step
    vote_shown (Waits t) e =
        let a = answered_waits w.size k.ballot k.heard from fits v.ballot (commander_counts w.size (with_vote k from)) t e in
        let is : with_vote k from ≡ t = waits_if (is_quorum w.size (from ∷ k.heard)) (with_vote k from) t tt a.1 in (
          all_voted_on w.size w.sent (sent_by n []) l.ballot l.proposals (Active (set_slot v.slot (record { size = w.size; state = Some t }) ks))
              (set_voted (Some t) (λ s f c at m g.
              let same : t ≡ s = cc in
              counted_voted a.0 c at m (subst (λ (x : CommanderState). is_among m x.heard ≡ true) (sym (is ∙ same)) g))),
          λ to s c j. absurd j,
        )
    vote_shown (Wins r) e =
        let a = answered_wins w.size k.ballot k.heard from fits v.ballot (commander_counts w.size (with_vote k from)) (ap is_win e) in
        let quorum : is_quorum w.size (from ∷ k.heard) ≡ true = (wins_if (is_quorum w.size (from ∷ k.heard)) (with_vote k from) tt).0 a.1 in (
          all_voted_on w.size w.sent (sent_by n (decision l v.slot (at_slot v.slot l.proposals))) l.ballot l.proposals (Active (without_slot v.slot (set_slot v.slot (record { size = w.size; state = None }) ks)))
              (λ j i. h j (in_without_set v.slot (record { size = w.size; state = None }) ks j i)),
          decision_chosen (at_slot v.slot l.proposals) refl a.0 quorum,
        )
    vote_shown (Yields b) e = (
      yields_voted (in_phase l (Active (set_slot v.slot (record { size = w.size; state = None }) ks))) b []
          (all_voted_on w.size w.sent (sent_by n []) l.ballot l.proposals (Active (set_slot v.slot (record { size = w.size; state = None }) ks)) (set_voted None (λ s f. absurd (cc)))),
      λ to s c j. absurd j,
    )
    vote_shown Ignores e = (
      all_voted_on w.size w.sent (sent_by n []) l.ballot l.proposals (Active (set_slot v.slot (record { size = w.size; state = Some k }) ks))
          (set_voted (Some k) (λ s f c at m g.
          let same : k ≡ s = cc in
          (h (v.slot, record { size = w.size; state = Some k }) among c at).1 k refl m (subst (λ (x : CommanderState). is_among m x.heard ≡ true) (sym same) g))),
      λ to s c j. absurd j,
    )

  abbrev Hears : Move (LeaderState C) C A → Type 0
  Hears move = After move.after move.sends × ((to s : ℕ) (c : C) → IsIn (record { to = to; message = Decision s c }) move.sends → IsChosen w.size w.sent s c)

  -- P2b
  vote_voted : (l : LeaderState C) (from to : ℕ) (v : Vote) (phase : Phase C) → IsOrderly n w.size (in_phase l phase) → AreVoted w.size w.sent l.ballot l.proposals phase →
      IsIn (record { from = from; to = to; message = P2b v }) w.sent → Hears (hears_vote_in (in_phase l phase) from v phase)
  vote_voted l from to v Passive o h sent = (tt, λ to s c j. absurd j)
  vote_voted l from to v (Scouting scout) o h sent = (tt, λ to s c j. absurd j)
  vote_voted l from to v (Active ks) o h sent =
      go (at_slot v.slot ks) refl
    where
      go : (k : Option (Pending CommanderState)) → at_slot v.slot ks ≡ k → Hears (on_verdict (in_phase l (Active ks)) (after_vote ks from v k) v.slot (verdict_on k from v))
      go None e = (all_voted_on w.size w.sent (sent_by n []) l.ballot l.proposals (Active ks) h, λ to s c j. absurd j)
      go (Some k) e =
          let among : IsIn (v.slot, k) ks = at_slot-among v.slot k ks e in
          let f = o.waits.1 (v.slot, k) among in
          let is : record { size = w.size; state = Some f.2.0 } ≡ k = λ i. record { size = sym f.0 i; state = sym f.2.1 i } in
          subst (λ (x : Pending CommanderState). Hears (on_verdict (in_phase l (Active ks)) (after_vote ks from v (Some x)) v.slot (verdict_on (Some x) from v))) is
          (vote_shown l ks f.2.0 from v h f.2.2 f.2.3 f.2.4 (subst (λ (x : Pending CommanderState). IsIn (v.slot, x) ks) (sym is) among) to sent (commander_hears w.size f.2.0 from v) refl)
  vote_voted l from to v Over o h sent = (tt, λ to s c j. absurd j)

module _ {C A : Type 0} (eq : C → C → Bool) (w : Roles C A) (i : Sound w) (decisions : ℕ → List (ℕ × C)) (learned : Learned w decisions) (n : ℕ) where
  -- of a call that brings no Decision
  untold : (call : Call C A) → IsNoVote IsNoDecision (λ b. tt) (λ p. tt) call → AreLeaderVoted w.size (w.sent ++ sent_by n (called eq (w.leaders n) call).sends) (called eq (w.leaders n) call).after →
      Learns w n (called eq (w.leaders n) call).after (called eq (w.leaders n) call).sends (decisions n)
  untold call calm h =
      record {
        commanders = h;
        tells = λ to s c j. absurd (asking_sends IsNoDecision (λ b. tt) (λ p. tt) eq (w.leaders n) call calm _ j);
        knows = learned.known n;
      }

  pub leader_learns : (call : Call C A) → IsHeard w.sent n call → Learns w n (called eq (w.leaders n) call).after (called eq (w.leaders n) call).sends (decisions n)
  leader_learns (Proposes s c) h = untold (Proposes s c) tt (proposed_voted w n (w.leaders n) s c (i.orderly n) (learned.commanders n))
  leader_learns (HearsPromise from p) h = untold (HearsPromise from p) tt (promise_voted w n eq (w.leaders n) from p (w.leaders n).phase (i.orderly n).its_cluster (learned.commanders n))
  leader_learns (HearsVote from v) h =
      let x = vote_voted w n (w.leaders n) from n v (w.leaders n).phase (i.orderly n) (learned.commanders n) h in
      record { commanders = x.0; tells = x.1; knows = learned.known n }
  leader_learns (Adopts b ps) h = absurd h
  leader_learns (IsPreempted b) h = absurd h
  leader_learns Campaigns h = untold Campaigns tt (campaign_voted w n (w.leaders n) (w.leaders n).phase (learned.commanders n))
  leader_learns Ticks h = untold Ticks tt (unmoved_voted w decisions learned n (called eq (w.leaders n) Ticks).sends)
