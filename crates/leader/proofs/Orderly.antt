-- What holds of a leader whatever was called.
use Rattle.std.proofs.Common.{◌≡◌, ◌⊎◌, ℕ, List, [], ◌∷◌, Bool, true, false, Option, Some, None, IsSome, is_some, refl, sym, ap, subst, inl, inr, ⊎_elim, cond, eqb, ◌+◌, ◌^◌}
use Rattle.std.specs.Prelude.{fold, nat_lt}
use mathlib.Core.Bool.{◌&&◌}
use Rattle.ballot.specs.Ballots.{BallotNumber, below, same_ballot, next_ballot}
use Rattle.ballot.specs.Lists.{IsIn}
use Rattle.ballot.specs.Nodes.{AreDistinct}
use Rattle.ballot.specs.declared.pvalue.PValue.{PValue}
use Rattle.ballot.specs.declared.message.Promise.{Promise}
use Rattle.ballot.specs.declared.message.Vote.{Vote}
use Rattle.proposer.specs.Quorums.{Pending, Step, Waits, Wins, Yields, Ignores, left_by}
use Rattle.proposer.specs.Scouts.{ScoutState, scout_hears, progress_of}
use Rattle.proposer.specs.Commanders.{CommanderState, commander_hears, verdict_of}
use Rattle.proposer.proofs.Parts.{is_quorum, with_vote, commander_counts, with_promise, scout_counts}
use Rattle.proposer.proofs.Heard.{answered_waits, answered_yields, never_yields, waits_if}
use Rattle.ballot.specs.Slots.{at_slot, with_slot, set_slot, without_slot, Rising}
use Rattle.ballot.specs.Sends.{stays}
use Rattle.leader.proofs.Parts.{in_phase, goes_on, yields_in, proposed_at, on_progress, on_verdict}
use Rattle.leader.specs.Leaders.{Phase, Passive, Scouting, Active, Over, LeaderState, new_leader, commander_for, best_pvalues, replaced, keeps_proposal, proposed, campaigned, preempted, adopts, adopted, hears_promise, hears_vote}
use Rattle.leader.specs.Parts.{after_vote, verdict_on}
use Rattle.leader.specs.Calls.{Call, Proposes, HearsPromise, HearsVote, Adopts, IsPreempted, Campaigns, Ticks, called, all_called, IsItsCommander, FitsPhase, IsOrderly}
use Rattle.leader.proofs.Slots.{at_slot-with_slot, at_slot-among, rising_with, rising_found, in_with_slot, in_set_slot, in_without_set, some_with_slot, rising_set, rising_without}
use Rattle.leader.proofs.Asked.{rising_replaced}

module _ {C : Type 0} (A : Type 0) (me size : ℕ) where
  -- with other proposals or another phase
  changed : (l : LeaderState C) (proposals : List (ℕ × C)) (phase : Phase C) → IsOrderly me size l → Rising proposals → FitsPhase size l.ballot proposals phase →
      IsOrderly me size (record { me = l.me; size = l.size; ballot = l.ballot; proposals = proposals; phase = phase })
  changed l proposals phase h rising waits =
      record { itself = h.itself; its_cluster = h.its_cluster; own_ballot = h.own_ballot; rising = rising; waits = waits }

  pub new_orderly : IsOrderly me size (new_leader {C = C} me size)
  new_orderly = record { itself = refl; its_cluster = refl; own_ballot = refl; rising = tt; waits = tt }

  new_commander_fits : (l : LeaderState C) (s : ℕ) (proposals : List (ℕ × C)) → l.size ≡ size → IsSome (at_slot s proposals) → IsItsCommander size l.ballot proposals (s, commander_for l s)
  new_commander_fits l s proposals e has = (e, has, (record { ballot = l.ballot; slot = s; heard = [] }, refl, refl, refl, tt))

  -- Propose
  keeps_orderly : (l : LeaderState C) (phase : Phase C) (s : ℕ) (c : C) → IsOrderly me size l → FitsPhase size l.ballot l.proposals phase → IsOrderly me size (keeps_proposal {A = A} l s c phase).after
  keeps_orderly l Passive s c h fits = changed l (with_slot s c l.proposals) Passive h (rising_with s c l.proposals h.rising) tt
  keeps_orderly l (Scouting scout) s c h fits = changed l (with_slot s c l.proposals) (Scouting scout) h (rising_with s c l.proposals h.rising) fits
  keeps_orderly l (Active ks) s c h fits =
      changed l (with_slot s c l.proposals) (Active (with_slot s (commander_for l s) ks)) h (rising_with s c l.proposals h.rising) (
        rising_with s (commander_for l s) ks fits.0,
        λ k i. ⊎_elim
            (λ (e : (s, commander_for l s) ≡ k). subst (IsItsCommander size l.ballot (with_slot s c l.proposals)) e (new_commander_fits l s (with_slot s c l.proposals) h.its_cluster (ap is_some (at_slot-with_slot s c l.proposals))))
            (λ (old : IsIn k ks). let f = fits.1 k old in (f.0, some_with_slot s k.0 c l.proposals f.1, f.2))
            (in_with_slot s (commander_for l s) ks k i),
      )
  keeps_orderly l Over s c h fits = changed l (with_slot s c l.proposals) Over h (rising_with s c l.proposals h.rising) tt

  proposed_orderly : (l : LeaderState C) (s : ℕ) (c : C) → IsOrderly me size l → IsOrderly me size (proposed {A = A} l s c).after
  proposed_orderly l s c h =
      go (at_slot s l.proposals)
    where
      go : (o : Option C) → IsOrderly me size (proposed_at {A = A} l s c o).after
      go None = keeps_orderly l l.phase s c h h.waits
      go (Some d) = h

  -- Campaign
  campaigned_orderly : (l : LeaderState C) (phase : Phase C) → IsOrderly me size (in_phase l phase) → IsOrderly me size (campaigned {A = A} (in_phase l phase)).after
  campaigned_orderly l Passive h =
      changed (in_phase l Passive) l.proposals (Scouting (record { size = l.size; state = Some (record { ballot = l.ballot; heard = []; pvalues = [] }) })) h h.rising (h.its_cluster, (record { ballot = l.ballot; heard = []; pvalues = [] }, refl, refl, tt))
  campaigned_orderly l (Scouting scout) h = h
  campaigned_orderly l (Active ks) h = h
  campaigned_orderly l Over h = h

  -- a higher ballot
  goes_on_orderly : (l : LeaderState C) (b : BallotNumber) → l.me ≡ me → l.size ≡ size → l.ballot.leader ≡ me → Rising l.proposals → IsOrderly me size (goes_on l (next_ballot b l.me))
  goes_on_orderly l b itself cluster own rising =
      go (nat_lt (b.round + 1) (2 ^ 64))
    where
      go : (t : Bool) → IsOrderly me size (goes_on l (cond t (Some (record { round = b.round + 1; leader = l.me })) None))
      go true = record { itself = itself; its_cluster = cluster; own_ballot = itself; rising = rising; waits = tt }
      go false = record { itself = itself; its_cluster = cluster; own_ballot = own; rising = rising; waits = tt }

  -- a leader that yields is orderly, whatever waited
  yielding_orderly : (l : LeaderState C) (phase : Phase C) (b : BallotNumber) → IsOrderly me size l → IsOrderly me size (yields_in (in_phase l phase) b phase)
  yielding_orderly l Passive b h = goes_on_orderly (in_phase l Passive) b h.itself h.its_cluster h.own_ballot h.rising
  yielding_orderly l (Scouting scout) b h = goes_on_orderly (in_phase l (Scouting scout)) b h.itself h.its_cluster h.own_ballot h.rising
  yielding_orderly l (Active ks) b h = goes_on_orderly (in_phase l (Active ks)) b h.itself h.its_cluster h.own_ballot h.rising
  yielding_orderly l Over b h = changed l l.proposals Over h h.rising tt

  preempted_orderly : (l : LeaderState C) (b : BallotNumber) → IsOrderly me size l → IsOrderly me size (preempted {A = A} l b).after
  preempted_orderly l b h =
      go (below l.ballot b)
    where
      go : (t : Bool) → IsOrderly me size (cond t (yields_in l b l.phase) l)
      go true = yielding_orderly l l.phase b h
      go false = h

  higher_orderly : (l : LeaderState C) (phase : Phase C) (b : BallotNumber) → IsOrderly me size l → below l.ballot b ≡ true → IsOrderly me size (preempted {A = A} (in_phase l phase) b).after
  higher_orderly l phase b h e = rw e (yielding_orderly l phase b h)

  -- an adoption
  pub in_commanders : (l : LeaderState C) (es : List (ℕ × C)) (all : List (ℕ × Pending CommanderState)) (k : ℕ × Pending CommanderState) → IsIn k (fold (λ all e. with_slot e.0 (commander_for l e.0) all) all es) →
      IsIn k all ⊎ ((e : ℕ × C) × IsIn e es × ((e.0, commander_for l e.0) ≡ k))
  in_commanders l [] all k h = inl h
  in_commanders l (e ∷ es) all k h =
      ⊎_elim
      (λ (i : IsIn k (with_slot e.0 (commander_for l e.0) all)). ⊎_elim (λ is. inr (e, inl refl, is)) (λ old. inl old) (in_with_slot e.0 (commander_for l e.0) all k i))
      (λ (x : (f : ℕ × C) × IsIn f es × ((f.0, commander_for l f.0) ≡ k)). inr (x.0, inr x.1, x.2))
      (in_commanders l es (with_slot e.0 (commander_for l e.0) all) k h)

  rising_commanders : (l : LeaderState C) (es : List (ℕ × C)) (all : List (ℕ × Pending CommanderState)) → Rising all → Rising (fold (λ all e. with_slot e.0 (commander_for l e.0) all) all es)
  rising_commanders l [] all h = h
  rising_commanders l (e ∷ es) all h = rising_commanders l es (with_slot e.0 (commander_for l e.0) all) (rising_with e.0 (commander_for l e.0) all h)

  adopts_orderly : (l : LeaderState C) (phase : Phase C) (ps : List (PValue C)) → IsOrderly me size l → IsOrderly me size (adopts {A = A} (in_phase l phase) ps).after
  adopts_orderly l phase ps h =
      let proposals : List (ℕ × C) = replaced l.proposals (best_pvalues ps) in
      let rising : Rising proposals = rising_replaced A l.proposals (best_pvalues ps) h.rising in
      let leads : LeaderState C = record { me = l.me; size = l.size; ballot = l.ballot; proposals = proposals; phase = phase } in
      record {
        itself = h.itself;
        its_cluster = h.its_cluster;
        own_ballot = h.own_ballot;
        rising = rising;
        waits = (
          rising_commanders leads proposals [] tt,
          λ k i.
              ⊎_elim
              (λ (n : IsIn k []). absurd n)
              (λ (x : (e : ℕ × C) × IsIn e proposals × ((e.0, commander_for leads e.0) ≡ k)).
              subst (IsItsCommander size l.ballot proposals) x.2 (new_commander_fits leads x.0.0 proposals h.its_cluster (ap is_some (rising_found proposals x.0 rising x.1))))
              (in_commanders leads proposals [] k i),
        );
      }

  adopted_orderly : (l : LeaderState C) (phase : Phase C) (b : BallotNumber) (ps : List (PValue C)) → IsOrderly me size (in_phase l phase) → IsOrderly me size (adopted {A = A} (in_phase l phase) b ps).after
  adopted_orderly l Passive b ps h = h
  adopted_orderly l (Scouting scout) b ps h =
      go (same_ballot b l.ballot)
    where
      go : (t : Bool) → IsOrderly me size (cond t (adopts {A = A} (in_phase l (Scouting scout)) ps) (stays (in_phase l (Scouting scout)))).after
      go true = adopts_orderly (in_phase l (Scouting scout)) (Scouting scout) ps h
      go false = h
  adopted_orderly l (Active ks) b ps h = h
  adopted_orderly l Over b ps h = h

  -- P1b
  on_step_orderly : (eq : C → C → Bool) (l : LeaderState C) (s : ScoutState C) (from : ℕ) (p : Promise C A) → IsOrderly me size l → s.ballot ≡ l.ballot → AreDistinct size s.heard →
      (step : Step (ScoutState C) (List (PValue C))) → scout_hears eq size s from p ≡ step →
      IsOrderly me size (on_progress {A = A} (in_phase l (Scouting (record { size = size; state = left_by (Some s) step }))) (progress_of step)).after
  on_step_orderly eq l s from p h mine distinct (Waits t) e =
      let a = answered_waits size s.ballot s.heard from (same_ballot p.asked s.ballot) p.ballot (scout_counts size (with_promise eq s from p)) t e in
      let is : with_promise eq s from p ≡ t = waits_if (is_quorum size (from ∷ s.heard)) (with_promise eq s from p) t (with_promise eq s from p).pvalues a.1 in
      changed l l.proposals (Scouting (record { size = size; state = Some t })) h h.rising
      (refl, (t, refl, subst (λ (x : ScoutState C). x.ballot ≡ l.ballot) is mine, subst (λ (x : ScoutState C). AreDistinct size x.heard) is (a.0.0, a.0.3, distinct)))
  on_step_orderly eq l s from p h mine distinct (Wins ps) e = adopts_orderly l (Scouting (record { size = size; state = None })) ps h
  on_step_orderly eq l s from p h mine distinct (Yields b) e =
      let up = answered_yields size s.ballot s.heard from (same_ballot p.asked s.ballot) p.ballot (scout_counts size (with_promise eq s from p)) b
      (never_yields (is_quorum size (from ∷ s.heard)) (with_promise eq s from p) (with_promise eq s from p).pvalues b) e in
      higher_orderly l (Scouting (record { size = size; state = None })) b h (subst (λ x. below x b ≡ true) mine up)
  on_step_orderly eq l s from p h mine distinct Ignores e =
      changed l l.proposals (Scouting (record { size = size; state = Some s })) h h.rising (refl, (s, refl, mine, distinct))

  hears_promise_orderly : (eq : C → C → Bool) (l : LeaderState C) (phase : Phase C) (from : ℕ) (p : Promise C A) → IsOrderly me size (in_phase l phase) → IsOrderly me size (hears_promise eq (in_phase l phase) from p).after
  hears_promise_orderly eq l Passive from p h = h
  hears_promise_orderly eq l (Scouting scout) from p h =
      let w = h.waits in
      let is : record { size = size; state = Some w.1.0 } ≡ scout = λ i. record { size = sym w.0 i; state = sym w.1.1 i } in
      subst (λ (x : Pending (ScoutState C)). IsOrderly me size (hears_promise eq (in_phase l (Scouting x)) from p).after) is
      (on_step_orderly eq (in_phase l (Scouting scout)) w.1.0 from p h w.1.2 w.1.3 (scout_hears eq size w.1.0 from p) refl)
  hears_promise_orderly eq l (Active ks) from p h = h
  hears_promise_orderly eq l Over from p h = h

  -- P2b
  on_vote_orderly : (l : LeaderState C) (ks : List (ℕ × Pending CommanderState)) (c : CommanderState) (from : ℕ) (v : Vote) → IsOrderly me size (in_phase l (Active ks)) →
      IsSome (at_slot v.slot l.proposals) → c.ballot ≡ l.ballot → c.slot ≡ v.slot → AreDistinct size c.heard →
      (step : Step CommanderState (Unit {0})) → commander_hears size c from v ≡ step →
      IsOrderly me size (on_verdict {A = A} (in_phase l (Active ks)) (set_slot v.slot (record { size = size; state = left_by (Some c) step }) ks) v.slot (verdict_of step)).after
  on_vote_orderly l ks c from v h has mine here distinct (Waits t) e =
      let a = answered_waits size c.ballot c.heard from (same_ballot v.asked c.ballot && eqb v.slot c.slot) v.ballot (commander_counts size (with_vote c from)) t e in
      let is : with_vote c from ≡ t = waits_if (is_quorum size (from ∷ c.heard)) (with_vote c from) t tt a.1 in
      changed (in_phase l (Active ks)) l.proposals (Active (set_slot v.slot (record { size = size; state = Some t }) ks)) h h.rising (
        rising_set v.slot (record { size = size; state = Some t }) ks h.waits.0,
        λ k i. ⊎_elim
            (λ (q : (v.slot, record { size = size; state = Some t }) ≡ k). subst (IsItsCommander size l.ballot l.proposals) q
            (refl, has, (t, refl, subst (λ (x : CommanderState). x.ballot ≡ l.ballot) is mine, subst (λ (x : CommanderState). x.slot ≡ v.slot) is here, subst (λ (x : CommanderState). AreDistinct size x.heard) is (a.0.0, a.0.3, distinct))))
            (λ old. h.waits.1 k old)
            (in_set_slot v.slot (record { size = size; state = Some t }) ks k i),
      )
  on_vote_orderly l ks c from v h has mine here distinct (Wins r) e =
      changed (in_phase l (Active ks)) l.proposals (Active (without_slot v.slot (set_slot v.slot (record { size = size; state = None }) ks))) h h.rising
      (rising_without v.slot (set_slot v.slot (record { size = size; state = None }) ks) (rising_set v.slot (record { size = size; state = None }) ks h.waits.0), λ k i. h.waits.1 k (in_without_set v.slot (record { size = size; state = None }) ks k i))
  on_vote_orderly l ks c from v h has mine here distinct (Yields b) e =
      let up = answered_yields size c.ballot c.heard from (same_ballot v.asked c.ballot && eqb v.slot c.slot) v.ballot (commander_counts size (with_vote c from)) b
      (never_yields (is_quorum size (from ∷ c.heard)) (with_vote c from) tt b) e in
      higher_orderly (in_phase l (Active ks)) (Active (set_slot v.slot (record { size = size; state = None }) ks)) b h (subst (λ x. below x b ≡ true) mine up)
  on_vote_orderly l ks c from v h has mine here distinct Ignores e =
      changed (in_phase l (Active ks)) l.proposals (Active (set_slot v.slot (record { size = size; state = Some c }) ks)) h h.rising (
        rising_set v.slot (record { size = size; state = Some c }) ks h.waits.0,
        λ k i. ⊎_elim
            (λ (q : (v.slot, record { size = size; state = Some c }) ≡ k). subst (IsItsCommander size l.ballot l.proposals) q (refl, has, (c, refl, mine, here, distinct)))
            (λ old. h.waits.1 k old)
            (in_set_slot v.slot (record { size = size; state = Some c }) ks k i),
      )

  hears_vote_orderly : (l : LeaderState C) (phase : Phase C) (from : ℕ) (v : Vote) → IsOrderly me size (in_phase l phase) → IsOrderly me size (hears_vote {A = A} (in_phase l phase) from v).after
  hears_vote_orderly l Passive from v h = h
  hears_vote_orderly l (Scouting scout) from v h = h
  hears_vote_orderly l (Active ks) from v h =
      go (at_slot v.slot ks) refl
    where
      go : (o : Option (Pending CommanderState)) → at_slot v.slot ks ≡ o → IsOrderly me size (on_verdict {A = A} (in_phase l (Active ks)) (after_vote ks from v o) v.slot (verdict_on o from v)).after
      go None e = h
      go (Some k) e =
          let f = h.waits.1 (v.slot, k) (at_slot-among v.slot k ks e) in
          let is : record { size = size; state = Some f.2.0 } ≡ k = λ i. record { size = sym f.0 i; state = sym f.2.1 i } in
          subst (λ (x : Pending CommanderState). IsOrderly me size (on_verdict {A = A} (in_phase l (Active ks)) (after_vote ks from v (Some x)) v.slot (verdict_on (Some x) from v)).after) is
          (on_vote_orderly l ks f.2.0 from v h f.1 f.2.2 f.2.3 f.2.4 (commander_hears size f.2.0 from v) refl)
  hears_vote_orderly l Over from v h = h

  pub called_orderly : (eq : C → C → Bool) (l : LeaderState C) (call : Call C A) → IsOrderly me size l → IsOrderly me size (called eq l call).after
  called_orderly eq l (Proposes s c) h = proposed_orderly l s c h
  called_orderly eq l (HearsPromise from p) h = hears_promise_orderly eq l l.phase from p h
  called_orderly eq l (HearsVote from v) h = hears_vote_orderly l l.phase from v h
  called_orderly eq l (Adopts b ps) h = adopted_orderly l l.phase b ps h
  called_orderly eq l (IsPreempted b) h = preempted_orderly l b h
  called_orderly eq l Campaigns h = campaigned_orderly l l.phase h
  called_orderly eq l Ticks h = h

  all_orderly : (eq : C → C → Bool) (l : LeaderState C) (calls : List (Call C A)) → IsOrderly me size l → IsOrderly me size (all_called eq l calls).after
  all_orderly eq l [] h = h
  all_orderly eq l (call ∷ calls) h = all_orderly eq (called eq l call).after calls (called_orderly eq l call h)

  pub always_orderly : (eq : C → C → Bool) (calls : List (Call C A)) → IsOrderly me size (all_called eq (new_leader me size) calls).after
  always_orderly eq calls = all_orderly eq (new_leader me size) calls new_orderly
