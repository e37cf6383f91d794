-- What a leader asks for: its proposals, and one command for a slot with a ballot.
use Rattle.std.proofs.Common.{◌≡◌, ◌≢◌, ◌⊎◌, ℕ, List, [], ◌∷◌, ◌++◌, Bool, true, false, Option, Some, None, refl, sym, ◌∙◌, subst, inl, inr, ⊎_elim, cond, ◌+◌, ◌^◌, arith}
use Rattle.std.specs.Prelude.{nat_lt}
use Rattle.std.specs.List.{flat_map}
use Rattle.std.proofs.lemmas.Bool.{true≢false}
use Rattle.ballot.specs.Ballots.{BallotNumber, Below, below, same_ballot, next_ballot}
use Rattle.ballot.specs.Lists.{IsIn}
use Rattle.ballot.specs.Sends.{to_all, Move, stays}
use Rattle.ballot.specs.declared.pvalue.PValue.{PValue}
use Rattle.ballot.specs.declared.message.Promise.{Promise}
use Rattle.ballot.specs.declared.message.Vote.{Vote}
use Rattle.ballot.specs.declared.message.Message.TheVariants.{P1a, P2a, Decision}
use Rattle.ballot.specs.declared.outgoing.Outgoing.{Outgoing}
use Rattle.ballot.proofs.Member.{in_either}
use Rattle.ballot.proofs.Sends.{in_to_all}
use Rattle.ballot.proofs.Order.{below-true, below_trans, not_below_itself}
use Rattle.proposer.specs.Quorums.{Pending}
use Rattle.proposer.specs.Scouts.{ScoutState, scout_step, progress_of}
use Rattle.proposer.specs.Commanders.{CommanderState}
use Rattle.proposer.specs.declared.scout.Progress.{Progress}
use Rattle.proposer.specs.declared.scout.Progress.TheVariants.{Waiting, Adopted, Preempted, Stale}
use Rattle.proposer.specs.declared.commander.Verdict.{Verdict}
use Rattle.proposer.specs.declared.commander.Verdict.TheVariants.{Decided}
use Rattle.proposer.specs.declared.commander.Verdict.TheVariants as vote
use Rattle.ballot.specs.Slots.{at_slot, with_slot, Rising}
use Rattle.leader.proofs.Parts.{in_phase, goes_on, yields_in, p2a_again, proposed_at, after_promise, on_progress, on_verdict}
use Rattle.leader.specs.Leaders.{Phase, Passive, Scouting, Active, Over, LeaderState, new_leader, phase_is_active, best_pvalues, replaced, p2a, keeps_proposal, proposed, campaigned, preempted, adopts, adopted, hears_promise, hears_vote, leader_ticks}
use Rattle.leader.specs.Parts.{decision, after_vote, verdict_on}
use Rattle.leader.specs.Calls.{Call, Proposes, HearsPromise, HearsVote, Adopts, IsPreempted, Campaigns, Ticks, called, all_called, Asks, IsAsked}
use Rattle.leader.proofs.Slots.{at_slot-with_slot, at_slot-with_other, rising_with, rising_found}

module _ {C : Type 0} where
  -- a pvalue that was asked for is the proposal, as long as its ballot is the leader's and the leader has it
  abbrev pub Standing : Phase C → List (ℕ × C) → PValue C → Type 0
  Standing Passive proposals p = ⊥
  Standing (Scouting scout) proposals p = ⊥
  Standing (Active commanders) proposals p = at_slot p.slot proposals ≡ Some p.command
  Standing Over proposals p = Unit {0}

  abbrev pub Past : LeaderState C → PValue C → Type 0
  Past l p = Below p.ballot l.ballot ⊎ ((p.ballot ≡ l.ballot) × Standing l.phase l.proposals p)

  pub asked_stands : (l : LeaderState C) (p : PValue C) → IsAsked l p → Past l p
  asked_stands l p h =
      inr (h.0, go l.phase h.1)
    where
      go : (phase : Phase C) → phase_is_active phase ≡ true → Standing phase l.proposals p
      go Passive e = absurd (true≢false (sym e))
      go (Scouting scout) e = absurd (true≢false (sym e))
      go (Active ks) e = h.2
      go Over e = tt

  -- what stands of a ballot that an active leader has is its proposal
  pub stands_active : (l : LeaderState C) (p : PValue C) → Past l p → p.ballot ≡ l.ballot → phase_is_active l.phase ≡ true → at_slot p.slot l.proposals ≡ Some p.command
  stands_active l p h e active =
      ⊎_elim
      (λ (b : Below p.ballot l.ballot). absurd (not_below_itself l.ballot (subst (λ x. Below x l.ballot) e b)))
      (λ (x : (p.ballot ≡ l.ballot) × Standing l.phase l.proposals p). go l.phase active x.1)
      h
    where
      go : (phase : Phase C) → phase_is_active phase ≡ true → Standing phase l.proposals p → at_slot p.slot l.proposals ≡ Some p.command
      go Passive a s = absurd s
      go (Scouting scout) a s = absurd s
      go (Active ks) a s = s
      go Over a s = absurd (true≢false (sym a))

module _ {C : Type 0} (A : Type 0) where
  pub asks_to_all : (n : ℕ) (q p : PValue C) → Asks {A = A} (to_all n (P2a q)) p → q ≡ p
  asks_to_all n q p h = let e = in_to_all n (P2a q) _ h.1 in cc

  pub in_flat_map : {X : Type 0} (f : X → List (Outgoing C A)) (xs : List X) (o : Outgoing C A) → IsIn o (flat_map f xs) → (x : X) × IsIn x xs × IsIn o (f x)
  in_flat_map f [] o h = absurd h
  in_flat_map f (x ∷ xs) o h =
      ⊎_elim (λ l. (x, inl refl, l)) (λ r. let y = in_flat_map f xs o r in (y.0, inr y.1, y.2)) (in_either o (f x) (flat_map f xs) h)

  -- what a call does to a leader
  pub record Kept (l : LeaderState C) (move : Move (LeaderState C) C A) : Type 0 where
    pub rising : Rising l.proposals → Rising move.after.proposals
    pub asks : Rising l.proposals → (p : PValue C) → Asks move.sends p → IsAsked move.after p
    pub keeps : (p : PValue C) → Past l p → Past move.after p

  -- a call that asks for nothing
  quietly : (l : LeaderState C) (move : Move (LeaderState C) C A) → (Rising l.proposals → Rising move.after.proposals) →
      ((p : PValue C) → Asks move.sends p → ⊥) → ((p : PValue C) → Past l p → Past move.after p) → Kept l move
  quietly l move rising none keeps = record { rising = rising; asks = λ r p h. absurd (none p h); keeps = keeps }

  stays_kept : (l : LeaderState C) → Kept l (stays l)
  stays_kept l = quietly l (stays l) (λ r. r) (λ p h. h.1) (λ p h. h)

  not_p1a : (n : ℕ) (b : BallotNumber) (p : PValue C) → Asks {A = A} (to_all n (P1a b)) p → ⊥
  not_p1a n b p h = let e = in_to_all n (P1a b) _ h.1 in absurd (cc)

  not_decision : (n s : ℕ) (c : C) (p : PValue C) → Asks {A = A} (to_all n (Decision s c)) p → ⊥
  not_decision n s c p h = let e = in_to_all n (Decision s c) _ h.1 in absurd (cc)

  -- a P2a of the leader's proposal
  p2a_asked : (l : LeaderState C) (s : ℕ) (c : C) → phase_is_active l.phase ≡ true → at_slot s l.proposals ≡ Some c → (p : PValue C) → Asks {A = A} (p2a l s c) p → IsAsked l p
  p2a_asked l s c active at p h =
      let e = asks_to_all l.size (record { ballot = l.ballot; slot = s; command = c }) p h in
      subst (IsAsked l) e (refl, active, at)

  -- Propose
  keeps_proposal_kept : (l : LeaderState C) (phase : Phase C) (s : ℕ) (c : C) → at_slot s l.proposals ≡ None →
      Kept (in_phase l phase) (keeps_proposal (in_phase l phase) s c phase)
  keeps_proposal_kept l Passive s c free =
      quietly _ _ (rising_with s c l.proposals) (λ p h. h.1) (λ p h. ⊎_elim (λ b. inl b) (λ (x : (p.ballot ≡ l.ballot) × ⊥). absurd x.1) h)
  keeps_proposal_kept l (Scouting scout) s c free =
      quietly _ _ (rising_with s c l.proposals) (λ p h. h.1) (λ p h. ⊎_elim (λ b. inl b) (λ (x : (p.ballot ≡ l.ballot) × ⊥). absurd x.1) h)
  keeps_proposal_kept l (Active ks) s c free =
      record {
        rising = rising_with s c l.proposals;
        asks = λ r p h. p2a_asked (keeps_proposal {A = A} (in_phase l (Active ks)) s c (Active ks)).after s c refl (at_slot-with_slot s c l.proposals) p h;
        keeps = λ p h.
            ⊎_elim
            (λ b. inl b)
            (λ (x : (p.ballot ≡ l.ballot) × (at_slot p.slot l.proposals ≡ Some p.command)).
            let other : p.slot ≢ s = λ e. let taken = subst (λ t. at_slot t l.proposals ≡ Some p.command) e x.1 in absurd (cc) in
            inr (x.0, at_slot-with_other s p.slot c l.proposals other ∙ x.1))
            h;
      }
  keeps_proposal_kept l Over s c free = quietly _ _ (rising_with s c l.proposals) (λ p h. h.1) (λ p h. h)

  proposed_kept : (l : LeaderState C) (s : ℕ) (c : C) → Kept l (proposed l s c)
  proposed_kept l s c =
      go (at_slot s l.proposals) refl
    where
      go : (o : Option C) → at_slot s l.proposals ≡ o → Kept l (proposed_at l s c o)
      go None e = keeps_proposal_kept l l.phase s c e
      go (Some d) e = stays_kept l

  -- Campaign
  campaigned_kept : (l : LeaderState C) (phase : Phase C) → Kept (in_phase l phase) (campaigned (in_phase l phase))
  campaigned_kept l Passive =
      quietly _ _ (λ r. r) (not_p1a l.size l.ballot) (λ p h. ⊎_elim (λ b. inl b) (λ (x : (p.ballot ≡ l.ballot) × ⊥). absurd x.1) h)
  campaigned_kept l (Scouting scout) = stays_kept (in_phase l (Scouting scout))
  campaigned_kept l (Active ks) = stays_kept (in_phase l (Active ks))
  campaigned_kept l Over = stays_kept (in_phase l Over)

  -- a higher ballot
  goes_on_kept : (l : LeaderState C) (b : BallotNumber) → Below l.ballot b → Kept l (stays (goes_on l (next_ballot b l.me)))
  goes_on_kept l b higher =
      go (nat_lt (b.round + 1) (2 ^ 64))
    where
      go : (t : Bool) → Kept l (stays (goes_on l (cond t (Some (record { round = b.round + 1; leader = l.me })) None)))
      go true =
          let next : BallotNumber = record { round = b.round + 1; leader = l.me } in
          let above : Below b next = inl (omega arith) in
          let up : Below l.ballot next = below_trans l.ballot b next higher above in
          quietly _ _ (λ r. r) (λ p h. h.1)
          (λ p h. inl (⊎_elim
          (λ (x : Below p.ballot l.ballot). below_trans p.ballot l.ballot next x up)
          (λ (x : (p.ballot ≡ l.ballot) × Standing l.phase l.proposals p). subst (λ y. Below y next) (sym x.0) up)
          h))
      go false =
          quietly _ _ (λ r. r) (λ p h. h.1)
          (λ p h. ⊎_elim (λ x. inl x) (λ (x : (p.ballot ≡ l.ballot) × Standing l.phase l.proposals p). inr (x.0, tt)) h)

  yields_in_kept : (l : LeaderState C) (phase : Phase C) (b : BallotNumber) → Below l.ballot b → Kept (in_phase l phase) (stays (yields_in (in_phase l phase) b phase))
  yields_in_kept l Passive b higher = goes_on_kept (in_phase l Passive) b higher
  yields_in_kept l (Scouting scout) b higher = goes_on_kept (in_phase l (Scouting scout)) b higher
  yields_in_kept l (Active ks) b higher = goes_on_kept (in_phase l (Active ks)) b higher
  yields_in_kept l Over b higher = stays_kept (in_phase l Over)

  preempted_kept : (l : LeaderState C) (b : BallotNumber) → Kept l (preempted l b)
  preempted_kept l b =
      go (below l.ballot b) refl
    where
      go : (t : Bool) → below l.ballot b ≡ t → Kept l (stays (cond t (yields_in l b l.phase) l))
      go true e = yields_in_kept l l.phase b (below-true l.ballot b e)
      go false e = stays_kept l

  -- a majority of promises, while a scout runs
  pub rising_replaced : (proposals : List (ℕ × C)) (best : List (ℕ × PValue C)) → Rising proposals → Rising (replaced proposals best)
  rising_replaced proposals [] h = h
  rising_replaced proposals (e ∷ best) h = rising_replaced (with_slot e.0 e.1.command proposals) best (rising_with e.0 e.1.command proposals h)

  adopts_kept : (l : LeaderState C) (scout : Pending (ScoutState C)) (ps : List (PValue C)) → Kept (in_phase l (Scouting scout)) (adopts (in_phase l (Scouting scout)) ps)
  adopts_kept l scout ps =
      record {
        rising = rising_replaced l.proposals (best_pvalues ps);
        asks = λ r p h.
            let x = in_flat_map (λ e. p2a after e.0 e.1) after.proposals _ h.1 in
            p2a_asked after x.0.0 x.0.1 refl (rising_found after.proposals x.0 (rising_replaced l.proposals (best_pvalues ps) r) x.1) p (h.0, x.2);
        keeps = λ p h. ⊎_elim (λ b. inl b) (λ (x : (p.ballot ≡ l.ballot) × ⊥). absurd x.1) h;
      }
    where
      after : LeaderState C
      after = (adopts {A = A} (in_phase l (Scouting scout)) ps).after

  adopted_kept : (l : LeaderState C) (phase : Phase C) (b : BallotNumber) (ps : List (PValue C)) → Kept (in_phase l phase) (adopted (in_phase l phase) b ps)
  adopted_kept l Passive b ps = stays_kept (in_phase l Passive)
  adopted_kept l (Scouting scout) b ps =
      go (same_ballot b l.ballot)
    where
      go : (t : Bool) → Kept (in_phase l (Scouting scout)) (cond t (adopts (in_phase l (Scouting scout)) ps) (stays (in_phase l (Scouting scout))))
      go true = adopts_kept l scout ps
      go false = stays_kept (in_phase l (Scouting scout))
  adopted_kept l (Active ks) b ps = stays_kept (in_phase l (Active ks))
  adopted_kept l Over b ps = stays_kept (in_phase l Over)

  -- P1b
  on_progress_kept : (l : LeaderState C) (before scout : Pending (ScoutState C)) (progress : Progress C A) →
      Kept (in_phase l (Scouting before)) (on_progress (in_phase l (Scouting scout)) progress)
  on_progress_kept l before scout Waiting =
      quietly _ _ (λ r. r) (λ p h. h.1) (λ p h. ⊎_elim (λ b. inl b) (λ (x : (p.ballot ≡ l.ballot) × ⊥). absurd x.1) h)
  on_progress_kept l before scout (Adopted ps) = let k = adopts_kept l scout ps in record { rising = k.rising; asks = k.asks; keeps = k.keeps }
  on_progress_kept l before scout (Preempted b) = let k = preempted_kept (in_phase l (Scouting scout)) b in record { rising = k.rising; asks = k.asks; keeps = k.keeps }
  on_progress_kept l before scout Stale =
      quietly _ _ (λ r. r) (λ p h. h.1) (λ p h. ⊎_elim (λ b. inl b) (λ (x : (p.ballot ≡ l.ballot) × ⊥). absurd x.1) h)

  hears_promise_kept : (eq : C → C → Bool) (l : LeaderState C) (phase : Phase C) (from : ℕ) (p : Promise C A) → Kept (in_phase l phase) (hears_promise eq (in_phase l phase) from p)
  hears_promise_kept eq l Passive from p = stays_kept (in_phase l Passive)
  hears_promise_kept eq l (Scouting scout) from p = on_progress_kept l scout (after_promise eq scout from p) (progress_of (scout_step eq scout from p))
  hears_promise_kept eq l (Active ks) from p = stays_kept (in_phase l (Active ks))
  hears_promise_kept eq l Over from p = stays_kept (in_phase l Over)

  -- P2b
  not_in_decision : (l : LeaderState C) (s : ℕ) (o : Option C) (p : PValue C) → Asks {A = A} (decision l s o) p → ⊥
  not_in_decision l s None p h = h.1
  not_in_decision l s (Some c) p h = not_decision l.size s c p h

  on_verdict_kept : (l : LeaderState C) (before ks : List (ℕ × Pending CommanderState)) (s : ℕ) (verdict : Verdict) →
      Kept (in_phase l (Active before)) (on_verdict (in_phase l (Active before)) ks s verdict)
  on_verdict_kept l before ks s vote.Waiting = quietly _ _ (λ r. r) (λ p h. h.1) (λ p h. h)
  on_verdict_kept l before ks s Decided = quietly _ _ (λ r. r) (not_in_decision (in_phase l (Active before)) s (at_slot s l.proposals)) (λ p h. h)
  on_verdict_kept l before ks s (vote.Preempted b) = let k = preempted_kept (in_phase l (Active ks)) b in record { rising = k.rising; asks = k.asks; keeps = k.keeps }
  on_verdict_kept l before ks s vote.Stale = quietly _ _ (λ r. r) (λ p h. h.1) (λ p h. h)

  hears_vote_kept : (l : LeaderState C) (phase : Phase C) (from : ℕ) (v : Vote) → Kept (in_phase l phase) (hears_vote (in_phase l phase) from v)
  hears_vote_kept l Passive from v = stays_kept (in_phase l Passive)
  hears_vote_kept l (Scouting scout) from v = stays_kept (in_phase l (Scouting scout))
  hears_vote_kept l (Active ks) from v = on_verdict_kept l ks (after_vote ks from v (at_slot v.slot ks)) v.slot (verdict_on (at_slot v.slot ks) from v)
  hears_vote_kept l Over from v = stays_kept (in_phase l Over)

  -- Tick
  p2a_again_asked : (l : LeaderState C) (s : ℕ) → phase_is_active l.phase ≡ true → (p : PValue C) → Asks {A = A} (p2a_again l s (at_slot s l.proposals)) p → IsAsked l p
  p2a_again_asked l s active p =
      go (at_slot s l.proposals) refl
    where
      go : (o : Option C) → at_slot s l.proposals ≡ o → Asks {A = A} (p2a_again l s o) p → IsAsked l p
      go None e h = absurd h.1
      go (Some c) e h = p2a_asked l s c active e p h

  ticked_kept : (l : LeaderState C) (phase : Phase C) → Kept (in_phase l phase) (leader_ticks (in_phase l phase))
  ticked_kept l Passive = stays_kept (in_phase l Passive)
  ticked_kept l (Scouting scout) = quietly _ _ (λ r. r) (not_p1a l.size l.ballot) (λ p h. h)
  ticked_kept l (Active ks) =
      record {
        rising = λ r. r;
        asks = λ r p h.
            let x = in_flat_map (λ k. p2a_again now k.0 (at_slot k.0 l.proposals)) ks _ h.1 in
            p2a_again_asked now x.0.0 refl p (h.0, x.2);
        keeps = λ p h. h;
      }
    where
      now : LeaderState C
      now = in_phase l (Active ks)
  ticked_kept l Over = stays_kept (in_phase l Over)

  pub called_kept : (eq : C → C → Bool) (l : LeaderState C) (call : Call C A) → Kept l (called eq l call)
  called_kept eq l (Proposes s c) = proposed_kept l s c
  called_kept eq l (HearsPromise from p) = hears_promise_kept eq l l.phase from p
  called_kept eq l (HearsVote from v) = hears_vote_kept l l.phase from v
  called_kept eq l (Adopts b ps) = adopted_kept l l.phase b ps
  called_kept eq l (IsPreempted b) = preempted_kept l b
  called_kept eq l Campaigns = campaigned_kept l l.phase
  called_kept eq l Ticks = ticked_kept l l.phase

  pub one_command : (l : LeaderState C) (p q : PValue C) → IsAsked l p → IsAsked l q → p.slot ≡ q.slot → p.command ≡ q.command
  one_command l p q a b e =
      let mine : at_slot q.slot l.proposals ≡ Some p.command = subst (λ s. at_slot s l.proposals ≡ Some p.command) e a.2 in
      let its : at_slot q.slot l.proposals ≡ Some q.command = b.2 in
      cc

  pub asks_either : (xs ys : List (Outgoing C A)) (p : PValue C) → Asks (xs ++ ys) p → Asks xs p ⊎ Asks ys p
  asks_either xs ys p h = ⊎_elim (λ l. inl (h.0, l)) (λ r. inr (h.0, r)) (in_either _ xs ys h.1)

  -- what calls do to a leader, one after another
  pub record Ran (l : LeaderState C) (move : Move (LeaderState C) C A) : Type 0 where
    pub rising : Rising l.proposals → Rising move.after.proposals
    -- what stands is the command of all that is asked for with its ballot and slot
    pub agrees : Rising l.proposals → (p q : PValue C) → Past l p → Asks move.sends q → p.ballot ≡ q.ballot → p.slot ≡ q.slot → p.command ≡ q.command
    pub once : Rising l.proposals → (p q : PValue C) → Asks move.sends p → Asks move.sends q → p.ballot ≡ q.ballot → p.slot ≡ q.slot → p.command ≡ q.command

  pub all_ran : (eq : C → C → Bool) (l : LeaderState C) (calls : List (Call C A)) → Ran l (all_called eq l calls)
  all_ran eq l [] =
      record {
        rising = λ r. r;
        agrees = λ r p q past h b s. absurd h.1;
        once = λ r p q h k b s. absurd h.1;
      }
  all_ran eq l (call ∷ calls) =
      let first : Move (LeaderState C) C A = called eq l call in
      then first (called_kept eq l call) (all_called eq first.after calls) (all_ran eq first.after calls)
    where
      then : (first : Move (LeaderState C) C A) → Kept l first → (rest : Move (LeaderState C) C A) → Ran first.after rest → Ran l (record { after = rest.after; sends = first.sends ++ rest.sends })
      then first one rest all =
          record {
            rising = λ r. all.rising (one.rising r);
            agrees = λ r p q past h b s.
                ⊎_elim
                (λ f.
                let asked = one.asks r q f in
                let stands : at_slot p.slot first.after.proposals ≡ Some p.command = stands_active first.after p (one.keeps p past) (b ∙ asked.0) asked.1 in
                one_command first.after p q (b ∙ asked.0, asked.1, stands) asked s)
                (λ k. all.agrees (one.rising r) p q (one.keeps p past) k b s)
                (asks_either first.sends rest.sends q h);
            once = λ r p q h k b s.
                ⊎_elim
                (λ f. ⊎_elim
                (λ g. one_command first.after p q (one.asks r p f) (one.asks r q g) s)
                (λ g. all.agrees (one.rising r) p q (asked_stands first.after p (one.asks r p f)) g b s)
                (asks_either first.sends rest.sends q k))
                (λ f. ⊎_elim
                (λ g. sym (all.agrees (one.rising r) q p (asked_stands first.after q (one.asks r q g)) f (sym b) (sym s)))
                (λ g. all.once (one.rising r) p q f g b s)
                (asks_either first.sends rest.sends q k))
                (asks_either first.sends rest.sends p h);
          }

  pub asked_of : (eq : C → C → Bool) (me size : ℕ) (before : List (Call C A)) (call : Call C A) (p : PValue C) →
      Asks (called eq (all_called eq (new_leader me size) before).after call).sends p → IsAsked (called eq (all_called eq (new_leader me size) before).after call).after p
  asked_of eq me size before call p h =
      (called_kept eq (all_called eq (new_leader me size) before).after call).asks ((all_ran eq (new_leader me size) before).rising tt) p h

  pub proposal_stays : (eq : C → C → Bool) (l : LeaderState C) (call : Call C A) (s : ℕ) (c : C) →
      phase_is_active l.phase ≡ true → phase_is_active (called eq l call).after.phase ≡ true → (called eq l call).after.ballot ≡ l.ballot →
      at_slot s l.proposals ≡ Some c → at_slot s (called eq l call).after.proposals ≡ Some c
  proposal_stays eq l call s c before after same at =
      let p : PValue C = record { ballot = l.ballot; slot = s; command = c } in
      stands_active (called eq l call).after p ((called_kept eq l call).keeps p (asked_stands l p (refl, before, at))) (sym same) after

  pub asked_once : (eq : C → C → Bool) (me size : ℕ) (calls : List (Call C A)) (p q : PValue C) →
      Asks (all_called eq (new_leader me size) calls).sends p → Asks (all_called eq (new_leader me size) calls).sends q → p.ballot ≡ q.ballot → p.slot ≡ q.slot → p.command ≡ q.command
  asked_once eq me size calls p q = (all_ran eq (new_leader me size) calls).once tt p q
