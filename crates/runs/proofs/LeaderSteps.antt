-- Each call of a leader keeps the invariant.
use Rattle.std.proofs.Common.{◌≡◌, ◌≢◌, ℕ, ◌+◌, ◌^◌, List, [], ◌∷◌, Bool, true, false, Option, Some, None, refl, sym, ap, ◌∙◌, subst, ⊎_elim, cond}
use Rattle.std.specs.Prelude.{nat_lt}
use Rattle.std.proofs.lemmas.Bool.{true≢false, cases_eq}
use Rattle.ballot.specs.Ballots.{BallotNumber, Below, below, same_ballot, next_ballot}
use Rattle.ballot.specs.Lists.{IsIn}
use Rattle.ballot.specs.Nodes.{is_among, AreDistinct}
use Rattle.ballot.specs.declared.pvalue.PValue.{PValue}
use Rattle.ballot.specs.declared.message.Promise.{Promise}
use Rattle.ballot.specs.declared.message.Vote.{Vote}
use Rattle.ballot.specs.declared.message.Message.TheVariants.{P1b, P2b}
use Rattle.ballot.specs.declared.message.Envelope.{Envelope}
use Rattle.ballot.proofs.Member.{IsEquality, joined_old, joined_new, joined_cases}
use Rattle.ballot.proofs.Order.{most_or_below, not_below_itself}
use Rattle.proposer.specs.Quorums.{Pending, Step, Waits, Wins, Yields, Ignores, left_by}
use Rattle.proposer.proofs.Parts.{is_quorum}
use Rattle.proposer.specs.Scouts.{ScoutState, scout_hears, progress_of}
use Rattle.proposer.proofs.Parts.{scout_counts, with_promise}
use Rattle.proposer.specs.Commanders.{CommanderState}
use Rattle.proposer.specs.declared.commander.Verdict.{Verdict}
use Rattle.proposer.specs.declared.commander.Verdict.TheVariants.{Decided}
use Rattle.proposer.specs.declared.commander.Verdict.TheVariants as vote
use Rattle.proposer.proofs.Heard.{answered_waits, waits_if, among_cases, wins_if_quorum}
use Rattle.proposer.proofs.Wins.{is_win, answered_counts, answered_wins, quorum_majority}
use Rattle.leader.specs.Leaders.{LeaderState, Phase, Passive, Scouting, Active, Over, yields, keeps_proposal, proposed, best_pvalues, replaced, adopts, hears_promise}
use Rattle.leader.proofs.Parts.{in_phase, goes_on, yields_in, proposed_at, campaigned_in, on_progress, hears_promise_in, on_verdict, hears_vote_in}
use Rattle.leader.specs.Parts.{after_vote, verdict_on}
use Rattle.ballot.specs.Slots.{at_slot, with_slot}
use Rattle.leader.specs.Calls.{Call, Proposes, HearsPromise, HearsVote, Campaigns, Ticks, Adopts, IsPreempted, called, FitsPhase}
use Rattle.leader.proofs.Slots.{at_slot-with_slot, at_slot-with_other}
use Rattle.leader.proofs.Asked.{Past, Standing, called_kept}
use Rattle.leader.proofs.Adoption.{adopted_highest}
use Rattle.leader.proofs.Orderly.{called_orderly}
use Rattle.runs.specs.Chosen.{asked}
use Rattle.runs.proofs.Invariant.{Roles, IsChoice, AreChoices, Covers, Backs, IsTold, IsBacked, IsLeaderBacked, Sound}
use Rattle.runs.proofs.Grow.{covers_more}
use Rattle.runs.proofs.Step.{Steps}
use Rattle.runs.proofs.LeaderSends.{leader_sends}

module _ {C : Type 0} where
  -- a slot without a proposal has none of the pvalues, so any command is a choice there
  free_choice : (ps : List (PValue C)) (proposals : List (ℕ × C)) (s : ℕ) (c : C) → AreChoices ps proposals → at_slot s proposals ≡ None → IsChoice ps s c
  free_choice ps proposals s c h free p i at =
      let x = h.1 p i in
      let taken : at_slot s proposals ≡ Some x.0 = subst (λ t. at_slot t proposals ≡ Some x.0) at x.1 in
      absurd (cc)

  some_same : (c d : C) → Some c ≡ Some d → c ≡ d
  some_same c d e = cc

  choices_with : (ps : List (PValue C)) (proposals : List (ℕ × C)) (s : ℕ) (c : C) → AreChoices ps proposals → at_slot s proposals ≡ None → AreChoices ps (with_slot s c proposals)
  choices_with ps proposals s c h free = (first, second)
    where
      first : (t : ℕ) (d : C) → at_slot t (with_slot s c proposals) ≡ Some d → IsChoice ps t d
      first t d e =
          ⊎_elim
          (λ (q : t ≡ s).
          let here : at_slot s (with_slot s c proposals) ≡ Some d = subst (λ u. at_slot u (with_slot s c proposals) ≡ Some d) q e in
          let is : c ≡ d = some_same c d (sym (at_slot-with_slot s c proposals) ∙ here) in
          subst (λ u. IsChoice ps u d) (sym q) (subst (IsChoice ps s) is (free_choice ps proposals s c h free)))
          (λ (ne : t ≢ s). h.0 t d (sym (at_slot-with_other s t c proposals ne) ∙ e))
          (cases_eq t s)

      second : (p : PValue C) → IsIn p ps → (d : C) × (at_slot p.slot (with_slot s c proposals) ≡ Some d)
      second p i =
          ⊎_elim
          (λ (q : p.slot ≡ s). (c, subst (λ u. at_slot u (with_slot s c proposals) ≡ Some c) (sym q) (at_slot-with_slot s c proposals)))
          (λ (ne : p.slot ≢ s). let x = h.1 p i in (x.0, at_slot-with_other s p.slot c proposals ne ∙ x.1))
          (cases_eq p.slot s)

  -- an adoption takes a choice of the adopted pvalues in each of their slots
  choices_adopted : (ps : List (PValue C)) (proposals : List (ℕ × C)) → AreChoices ps (replaced proposals (best_pvalues ps))
  choices_adopted ps proposals = (
    λ s c e p i at.
        let best = adopted_highest ps proposals p i in
        let here : at_slot s (replaced proposals (best_pvalues ps)) ≡ Some best.0.command = subst (λ t. at_slot t (replaced proposals (best_pvalues ps)) ≡ Some best.0.command) at best.3 in
        (best.0, best.1, best.2 ∙ at, some_same best.0.command c (sym here ∙ e), best.4 p i refl),
    λ p i. let best = adopted_highest ps proposals p i in (best.0.command, best.3),
  )

module _ {C A : Type 0} (w : Roles C A) where
  -- Propose
  backed_proposal : (l : LeaderState C) (s : ℕ) (c : C) (phase : Phase C) → at_slot s l.proposals ≡ None → IsBacked w.size w.acceptors w.sent l.ballot l.proposals phase →
      IsLeaderBacked w (keeps_proposal {A = A} l s c phase).after
  backed_proposal l s c Passive free h = tt
  backed_proposal l s c (Scouting scout) free h = h
  backed_proposal l s c (Active ks) free h = (h.0, h.1, choices_with h.0 l.proposals s c h.2 free)
  backed_proposal l s c Over free h = tt

  backed_proposed : (l : LeaderState C) (s : ℕ) (c : C) → IsLeaderBacked w l → IsLeaderBacked w (proposed {A = A} l s c).after
  backed_proposed l s c h =
      go (at_slot s l.proposals) refl
    where
      go : (o : Option C) → at_slot s l.proposals ≡ o → IsLeaderBacked w (proposed_at {A = A} l s c o).after
      go None free = backed_proposal l s c l.phase free h
      go (Some d) e = h

  -- Campaign
  backed_campaign : (l : LeaderState C) (phase : Phase C) → IsLeaderBacked w (in_phase l phase) → IsLeaderBacked w (campaigned_in {A = A} (in_phase l phase) phase).after
  backed_campaign l Passive h =
      λ s e.
      let new : record { ballot = l.ballot; heard = []; pvalues = [] } ≡ s = cc in
      subst (IsTold w.acceptors w.sent l.ballot) new (λ n t. absurd (true≢false (sym t)), λ p i. absurd i)
  backed_campaign l (Scouting scout) h = h
  backed_campaign l (Active ks) h = h
  backed_campaign l Over h = h

  -- a higher ballot leaves nothing that has to be backed
  backed_goes_on : (l : LeaderState C) (b : BallotNumber) → IsLeaderBacked w (goes_on l (next_ballot b l.me))
  backed_goes_on l b =
      go (nat_lt (b.round + 1) (2 ^ 64))
    where
      go : (t : Bool) → IsLeaderBacked w (goes_on l (cond t (Some (record { round = b.round + 1; leader = l.me })) None))
      go true = tt
      go false = tt

  backed_yielding : (l : LeaderState C) (phase : Phase C) (b : BallotNumber) → IsLeaderBacked w (yields_in (in_phase l phase) b phase)
  backed_yielding l Passive b = backed_goes_on (in_phase l Passive) b
  backed_yielding l (Scouting scout) b = backed_goes_on (in_phase l (Scouting scout)) b
  backed_yielding l (Active ks) b = backed_goes_on (in_phase l (Active ks)) b
  backed_yielding l Over b = tt

  backed_yields : (l : LeaderState C) (b : BallotNumber) → IsLeaderBacked w l → IsLeaderBacked w (yields l b)
  backed_yields l b h =
      go (below l.ballot b)
    where
      go : (t : Bool) → IsLeaderBacked w (cond t (yields_in l b l.phase) l)
      go true = backed_yielding l l.phase b
      go false = h

  -- an adoption of pvalues that a majority told
  backed_adoption : (l : LeaderState C) (ps : List (PValue C)) → Backs w.size w.acceptors w.sent l.ballot ps → IsLeaderBacked w (adopts {A = A} l ps).after
  backed_adoption l ps h = (ps, h, choices_adopted ps l.proposals)

  -- P2b
  backed_verdict : (l : LeaderState C) (before ks : List (ℕ × Pending CommanderState)) (s : ℕ) (verdict : Verdict) → IsLeaderBacked w (in_phase l (Active before)) →
      IsLeaderBacked w (on_verdict {A = A} (in_phase l (Active before)) ks s verdict).after
  backed_verdict l before ks s vote.Waiting h = h
  backed_verdict l before ks s Decided h = h
  backed_verdict l before ks s (vote.Preempted b) h = backed_yields (in_phase l (Active ks)) b h
  backed_verdict l before ks s vote.Stale h = h

  backed_vote : (l : LeaderState C) (from : ℕ) (v : Vote) (phase : Phase C) → IsLeaderBacked w (in_phase l phase) → IsLeaderBacked w (hears_vote_in {A = A} (in_phase l phase) from v phase).after
  backed_vote l from v Passive h = h
  backed_vote l from v (Scouting scout) h = h
  backed_vote l from v (Active ks) h = backed_verdict l ks (after_vote ks from v (at_slot v.slot ks)) v.slot (verdict_on (at_slot v.slot ks) from v) h
  backed_vote l from v Over h = h

-- what node n has its leader do, on a message that was sent to it or of itself
abbrev pub IsHeard : {C A : Type 0} → List (Envelope C A) → ℕ → Call C A → Type 0
IsHeard sent n (HearsPromise from p) = IsIn (record { from = from; to = n; message = P1b p }) sent
IsHeard sent n (HearsVote from v) = IsIn (record { from = from; to = n; message = P2b v }) sent
IsHeard sent n (Adopts b ps) = ⊥
IsHeard sent n (IsPreempted b) = ⊥
IsHeard sent n _ = Unit {0}

module _ {C A : Type 0} (eq : C → C → Bool) (law : IsEquality eq) (w : Roles C A) (i : Sound w) (n : ℕ) where
  -- while a leader scouts, nothing was asked for with its ballot
  silent : (scout : Pending (ScoutState C)) → (w.leaders n).phase ≡ Scouting scout → (p : PValue C) → IsIn p (asked w.sent) → p.ballot ≡ (w.leaders n).ballot → ⊥
  silent scout e p asks same =
      let l : LeaderState C = w.leaders n in
      let by_me : p.ballot.leader ≡ n = ap (λ (b : BallotNumber). b.leader) same ∙ (i.orderly n).own_ballot in
      let past : Past l p = subst (λ k. Past (w.leaders k) p) by_me (i.asked_past p asks) in
      ⊎_elim
      (λ (x : Below p.ballot l.ballot). not_below_itself p.ballot (subst (Below p.ballot) (sym same) x))
      (λ (x : (p.ballot ≡ l.ballot) × Standing l.phase l.proposals p). subst (λ phase. Standing phase l.proposals p) e x.1)
      past

  -- a promise of its ballot that the scout counts
  told_more : (scout : Pending (ScoutState C)) → (w.leaders n).phase ≡ Scouting scout → (s : ScoutState C) → IsTold w.acceptors w.sent (w.leaders n).ballot s →
      (from to : ℕ) (p : Promise C A) → IsIn (record { from = from; to = to; message = P1b p }) w.sent → p.ballot ≡ (w.leaders n).ballot →
      IsTold w.acceptors w.sent (w.leaders n).ballot (with_promise eq s from p)
  told_more scout e s h from to p sent same =
      let b : BallotNumber = (w.leaders n).ballot in
      let told = i.promised from to p sent in
      let now : ScoutState C = with_promise eq s from p in
      let covers : Covers w.sent from (w.acceptors from) b p.accepted = subst (λ c. Covers w.sent from (w.acceptors from) c p.accepted) same told.0 in (
        λ m t. ⊎_elim
            (λ (x : m ≡ from). subst (λ k. Covers w.sent k (w.acceptors k) b now.pvalues) (sym x) (covers_more w.sent from (w.acceptors from) b p.accepted now.pvalues (joined_new eq law s.pvalues p.accepted) covers))
            (λ x. covers_more w.sent m (w.acceptors m) b s.pvalues now.pvalues (joined_old eq law s.pvalues p.accepted) (h.0 m x))
            (among_cases m from s.heard t),
        λ q j. ⊎_elim
            (λ old. h.1 q old)
            (λ new. let x = told.1 q new in (
              x.0,
              ⊎_elim
                  (λ (at : q.ballot ≡ p.ballot). absurd (silent scout e q x.0 (at ∙ same)))
                  (λ (low : Below q.ballot p.ballot). subst (Below q.ballot) same low)
                  (most_or_below q.ballot p.ballot x.1),
            ))
            (joined_cases eq law s.pvalues p.accepted q j),
      )

  -- the scout s of the leader hears a promise that was sent
  backed_step : (scout : Pending (ScoutState C)) → (w.leaders n).phase ≡ Scouting scout → (s : ScoutState C) → s.ballot ≡ (w.leaders n).ballot → AreDistinct w.size s.heard →
      IsTold w.acceptors w.sent (w.leaders n).ballot s → (from to : ℕ) (p : Promise C A) → IsIn (record { from = from; to = to; message = P1b p }) w.sent →
      (step : Step (ScoutState C) (List (PValue C))) → scout_hears eq w.size s from p ≡ step →
      IsLeaderBacked w (on_progress {A = A} (in_phase (w.leaders n) (Scouting (record { size = w.size; state = left_by (Some s) step }))) (progress_of step)).after
  backed_step scout e s mine distinct h from to p sent (Waits t) q =
      let a = answered_waits w.size s.ballot s.heard from (same_ballot p.asked s.ballot) p.ballot (scout_counts w.size (with_promise eq s from p)) t q in
      let is : with_promise eq s from p ≡ t = waits_if (is_quorum w.size (from ∷ s.heard)) (with_promise eq s from p) t (with_promise eq s from p).pvalues a.1 in
      let more = told_more scout e s h from to p sent (a.0.2 ∙ mine) in
      λ u f. let same : t ≡ u = cc in subst (IsTold w.acceptors w.sent (w.leaders n).ballot) (is ∙ same) more
  backed_step scout e s mine distinct h from to p sent (Wins ps) q =
      let now : ScoutState C = with_promise eq s from p in
      let fits : Bool = same_ballot p.asked s.ballot in
      let counted = answered_wins w.size s.ballot s.heard from fits p.ballot (scout_counts w.size now) (ap is_win q) in
      let wins = wins_if_quorum (is_quorum w.size now.heard) now ps now.pvalues (sym (answered_counts w.size s.ballot s.heard from fits p.ballot (scout_counts w.size now) counted.0) ∙ q) in
      let more = told_more scout e s h from to p sent (counted.0.2 ∙ mine) in
      let majority = (quorum_majority w.size now.heard (counted.0.0, counted.0.3, distinct)).0 wins.0 in
      let backs : Backs w.size w.acceptors w.sent (w.leaders n).ballot now.pvalues = (λ m. is_among m now.heard, majority, more.0, more.1) in
      backed_adoption w (in_phase (w.leaders n) (Scouting (record { size = w.size; state = None }))) ps (subst (Backs w.size w.acceptors w.sent (w.leaders n).ballot) wins.1 backs)
  backed_step scout e s mine distinct h from to p sent (Yields b) q =
      backed_yields w (in_phase (w.leaders n) (Scouting (record { size = w.size; state = None }))) b (λ u f. absurd (cc))
  backed_step scout e s mine distinct h from to p sent Ignores q =
      λ u f. let same : s ≡ u = cc in subst (IsTold w.acceptors w.sent (w.leaders n).ballot) same h

  -- P1b
  backed_promise : (from to : ℕ) (p : Promise C A) → IsIn (record { from = from; to = to; message = P1b p }) w.sent → IsLeaderBacked w (hears_promise eq (w.leaders n) from p).after
  backed_promise from to p sent =
      go (w.leaders n).phase refl (i.orderly n).waits (i.backed n)
    where
      l : LeaderState C
      l = w.leaders n

      go : (phase : Phase C) → l.phase ≡ phase → FitsPhase w.size l.ballot l.proposals phase → IsBacked w.size w.acceptors w.sent l.ballot l.proposals phase →
          IsLeaderBacked w (hears_promise_in eq l from p phase).after
      go Passive e fits h = i.backed n
      go (Scouting scout) e fits h =
          let is : record { size = w.size; state = Some fits.1.0 } ≡ scout = λ j. record { size = sym fits.0 j; state = sym fits.1.1 j } in
          subst (λ (x : Pending (ScoutState C)). IsLeaderBacked w (hears_promise_in eq l from p (Scouting x)).after) is
          (backed_step scout e fits.1.0 fits.1.2 fits.1.3 (h fits.1.0 fits.1.1) from to p sent (scout_hears eq w.size fits.1.0 from p) refl)
      go (Active ks) e fits h = i.backed n
      go Over e fits h = i.backed n

  backed_call : (call : Call C A) → IsHeard w.sent n call → IsLeaderBacked w (called eq (w.leaders n) call).after
  backed_call (Proposes s c) h = backed_proposed w (w.leaders n) s c (i.backed n)
  backed_call (HearsPromise from p) h = backed_promise from n p h
  backed_call (HearsVote from v) h = backed_vote w (w.leaders n) from v (w.leaders n).phase (i.backed n)
  backed_call (Adopts b ps) h = absurd h
  backed_call (IsPreempted b) h = absurd h
  backed_call Campaigns h = backed_campaign w (w.leaders n) (w.leaders n).phase (i.backed n)
  backed_call Ticks h = i.backed n

  pub leader_steps : (call : Call C A) → IsHeard w.sent n call → Steps w n (w.acceptors n) (called eq (w.leaders n) call).after (called eq (w.leaders n) call).sends
  leader_steps call h =
      let l : LeaderState C = w.leaders n in
      let kept = called_kept A eq l call in
      record {
        rises = λ c r. r;
        holds = λ s c r. r;
        kept = i.kept_asked n;
        reached = i.kept_reached n;
        promises = λ to p j. absurd (leader_sends eq l call _ j);
        votes = λ to b s j. absurd (leader_sends eq l call _ j);
        asks = kept.asks (i.orderly n).rising;
        keeps = kept.keeps;
        orderly = called_orderly A n w.size eq l call (i.orderly n);
        backed = backed_call call h;
      }
