-- Each command that a leader proposes was proposed to it, or was asked for before: so it has every property that those have.
use Rattle.std.proofs.Common.{◌≡◌, ◌≢◌, ◌⊎◌, ℕ, ◌+◌, ◌^◌, List, [], ◌∷◌, Bool, true, false, Option, Some, None, refl, sym, ap, ◌∙◌, subst, inl, inr, ⊎_elim, cond}
use Rattle.std.specs.Prelude.{nat_lt, fold}
use Rattle.std.proofs.lemmas.Bool.{cases_eq}
use Rattle.ballot.specs.Ballots.{BallotNumber, below, same_ballot, next_ballot}
use Rattle.ballot.specs.Lists.{IsIn}
use Rattle.ballot.specs.declared.pvalue.PValue.{PValue}
use Rattle.ballot.specs.declared.message.Promise.{Promise}
use Rattle.ballot.specs.declared.message.Vote.{Vote}
use Rattle.ballot.specs.declared.message.Message.TheVariants.{P1b}
use Rattle.ballot.proofs.Member.{IsEquality, joined_cases}
use Rattle.proposer.specs.Quorums.{Pending, Step, Waits, Wins, Yields, Ignores, left_by}
use Rattle.proposer.proofs.Parts.{is_quorum}
use Rattle.proposer.specs.Scouts.{ScoutState, scout_hears, progress_of}
use Rattle.proposer.proofs.Parts.{scout_counts, with_promise}
use Rattle.proposer.specs.Commanders.{CommanderState}
use Rattle.proposer.specs.declared.commander.Verdict.{Verdict}
use Rattle.proposer.specs.declared.commander.Verdict.TheVariants.{Decided}
use Rattle.proposer.specs.declared.commander.Verdict.TheVariants as vote
use Rattle.proposer.proofs.Heard.{wins_if_quorum}
use Rattle.proposer.proofs.Wins.{is_win, answered_counts, answered_wins}
use Rattle.leader.specs.Leaders.{LeaderState, Phase, Passive, Scouting, Active, Over, yields, keeps_proposal, proposed, keep_better, best_pvalues, replaced, hears_promise}
use Rattle.leader.proofs.Parts.{in_phase, goes_on, yields_in, proposed_at, campaigned_in, if_better, on_progress, hears_promise_in, on_verdict, hears_vote_in}
use Rattle.leader.specs.Parts.{after_vote, verdict_on}
use Rattle.ballot.specs.Slots.{at_slot, with_slot}
use Rattle.leader.specs.Calls.{Call, Proposes, HearsPromise, HearsVote, Adopts, IsPreempted, Campaigns, Ticks, called, FitsPhase}
use Rattle.leader.proofs.Slots.{at_slot-with_slot, at_slot-with_other, in_with_slot}
use Rattle.runs.specs.Chosen.{asked}
use Rattle.runs.proofs.Invariant.{Roles, IsBacked, IsTold, Sound}
use Rattle.runs.proofs.LeaderSteps.{IsHeard}

-- the best pvalues are among those seen
module _ {C : Type 0} where
  in_better : (o : Option (PValue C)) (p : PValue C) (best : List (ℕ × PValue C)) (e : ℕ × PValue C) → IsIn e (if_better o p best) → IsIn e best ⊎ (p ≡ e.1)
  in_better o p best e =
      go o
    where
      put : IsIn e (with_slot p.slot p best) → IsIn e best ⊎ (p ≡ e.1)
      put h = ⊎_elim (λ (q : (p.slot, p) ≡ e). inr (ap (λ (y : ℕ × PValue C). y.1) q)) (λ old. inl old) (in_with_slot p.slot p best e h)

      one : (t : Bool) → IsIn e (cond t (with_slot p.slot p best) best) → IsIn e best ⊎ (p ≡ e.1)
      one true h = put h
      one false h = inl h

      go : (o : Option (PValue C)) → IsIn e (if_better o p best) → IsIn e best ⊎ (p ≡ e.1)
      go None h = put h
      go (Some q) h = one (below q.ballot p.ballot) h

  in_best : (best : List (ℕ × PValue C)) (ps : List (PValue C)) (e : ℕ × PValue C) → IsIn e (fold keep_better best ps) → IsIn e best ⊎ IsIn e.1 ps
  in_best best [] e h = inl h
  in_best best (p ∷ ps) e h =
      ⊎_elim
      (λ (now : IsIn e (keep_better best p)). ⊎_elim (λ old. inl old) (λ is. inr (inl is)) (in_better (at_slot p.slot best) p best e now))
      (λ later. inr (inr later))
      (in_best (keep_better best p) ps e h)

module _ {C : Type 0} (S : C → Type 0) where
  -- each proposal has the property
  abbrev pub AllOf : List (ℕ × C) → Type 0
  AllOf proposals = (s : ℕ) (c : C) → at_slot s proposals ≡ Some c → S c

  some_same : (c d : C) → Some c ≡ Some d → c ≡ d
  some_same c d e = cc

  all_with : (s : ℕ) (c : C) (proposals : List (ℕ × C)) → S c → AllOf proposals → AllOf (with_slot s c proposals)
  all_with s c proposals is h t d e =
      ⊎_elim
      (λ (q : t ≡ s).
      let here : at_slot s (with_slot s c proposals) ≡ Some d = subst (λ u. at_slot u (with_slot s c proposals) ≡ Some d) q e in
      subst S (some_same c d (sym (at_slot-with_slot s c proposals) ∙ here)) is)
      (λ (ne : t ≢ s). h t d (sym (at_slot-with_other s t c proposals ne) ∙ e))
      (cases_eq t s)

  all_replaced : (proposals : List (ℕ × C)) (best : List (ℕ × PValue C)) → ((e : ℕ × PValue C) → IsIn e best → S e.1.command) → AllOf proposals → AllOf (replaced proposals best)
  all_replaced proposals [] has h = h
  all_replaced proposals (e ∷ best) has h = all_replaced (with_slot e.0 e.1.command proposals) best (λ x i. has x (inr i)) (all_with e.0 e.1.command proposals (has e (inl refl)) h)

  all_adopted : (proposals : List (ℕ × C)) (ps : List (PValue C)) → ((p : PValue C) → IsIn p ps → S p.command) → AllOf proposals → AllOf (replaced proposals (best_pvalues ps))
  all_adopted proposals ps has h =
      all_replaced proposals (best_pvalues ps) (λ e i. ⊎_elim (λ (none : IsIn e []). absurd none) (λ is. has e.1 is) (in_best [] ps e i)) h

  goes_on_all : (l : LeaderState C) (b : BallotNumber) → AllOf l.proposals → AllOf (goes_on l (next_ballot b l.me)).proposals
  goes_on_all l b h =
      go (nat_lt (b.round + 1) (2 ^ 64))
    where
      go : (t : Bool) → AllOf (goes_on l (cond t (Some (record { round = b.round + 1; leader = l.me })) None)).proposals
      go true = h
      go false = h

  yielding_all : (l : LeaderState C) (phase : Phase C) (b : BallotNumber) → AllOf l.proposals → AllOf (yields_in (in_phase l phase) b phase).proposals
  yielding_all l Passive b h = goes_on_all (in_phase l Passive) b h
  yielding_all l (Scouting scout) b h = goes_on_all (in_phase l (Scouting scout)) b h
  yielding_all l (Active ks) b h = goes_on_all (in_phase l (Active ks)) b h
  yielding_all l Over b h = h

  yields_all : (l : LeaderState C) (b : BallotNumber) → AllOf l.proposals → AllOf (yields l b).proposals
  yields_all l b h =
      go (below l.ballot b)
    where
      go : (t : Bool) → AllOf (cond t (yields_in l b l.phase) l).proposals
      go true = yielding_all l l.phase b h
      go false = h

module _ {C : Type 0} (A : Type 0) (S : C → Type 0) where
  keeps_all : (l : LeaderState C) (s : ℕ) (c : C) (phase : Phase C) → S c → AllOf S l.proposals → AllOf S (keeps_proposal {A = A} l s c phase).after.proposals
  keeps_all l s c Passive is h = all_with S s c l.proposals is h
  keeps_all l s c (Scouting scout) is h = all_with S s c l.proposals is h
  keeps_all l s c (Active ks) is h = all_with S s c l.proposals is h
  keeps_all l s c Over is h = all_with S s c l.proposals is h

  proposed_all : (l : LeaderState C) (s : ℕ) (c : C) → S c → AllOf S l.proposals → AllOf S (proposed {A = A} l s c).after.proposals
  proposed_all l s c is h =
      go (at_slot s l.proposals)
    where
      go : (o : Option C) → AllOf S (proposed_at {A = A} l s c o).after.proposals
      go None = keeps_all l s c l.phase is h
      go (Some d) = h

  campaign_all : (l : LeaderState C) (phase : Phase C) → AllOf S l.proposals → AllOf S (campaigned_in {A = A} l phase).after.proposals
  campaign_all l Passive h = h
  campaign_all l (Scouting scout) h = h
  campaign_all l (Active ks) h = h
  campaign_all l Over h = h

  verdict_all : (l : LeaderState C) (ks : List (ℕ × Pending CommanderState)) (s : ℕ) (verdict : Verdict) → AllOf S l.proposals → AllOf S (on_verdict {A = A} l ks s verdict).after.proposals
  verdict_all l ks s vote.Waiting h = h
  verdict_all l ks s Decided h = h
  verdict_all l ks s (vote.Preempted b) h = yields_all S (in_phase l (Active ks)) b h
  verdict_all l ks s vote.Stale h = h

  vote_all : (l : LeaderState C) (from : ℕ) (v : Vote) (phase : Phase C) → AllOf S l.proposals → AllOf S (hears_vote_in {A = A} l from v phase).after.proposals
  vote_all l from v Passive h = h
  vote_all l from v (Scouting scout) h = h
  vote_all l from v (Active ks) h = verdict_all l (after_vote ks from v (at_slot v.slot ks)) v.slot (verdict_on (at_slot v.slot ks) from v) h
  vote_all l from v Over h = h

-- what is proposed has the property
abbrev pub IsFit : {C A : Type 0} → (C → Type 0) → Call C A → Type 0
IsFit S (Proposes s c) = S c
IsFit S _ = Unit {0}

module _ {C A : Type 0} (eq : C → C → Bool) (law : IsEquality eq) (S : C → Type 0) (w : Roles C A) (i : Sound w) (n : ℕ)
    (asks : (p : PValue C) → IsIn p (asked w.sent) → S p.command) (mine : AllOf S (w.leaders n).proposals) where
  abbrev L : LeaderState C
  L = w.leaders n

  -- what an adoption adopts was asked for before
  step_all : (s : ScoutState C) → IsTold w.acceptors w.sent L.ballot s → (from to : ℕ) (p : Promise C A) → IsIn (record { from = from; to = to; message = P1b p }) w.sent →
      (step : Step (ScoutState C) (List (PValue C))) → scout_hears eq w.size s from p ≡ step →
      AllOf S (on_progress {A = A} (in_phase L (Scouting (record { size = w.size; state = left_by (Some s) step }))) (progress_of step)).after.proposals
  step_all s told from to p sent (Waits t) e = mine
  step_all s told from to p sent (Wins ps) e =
      let now : ScoutState C = with_promise eq s from p in
      let fits : Bool = same_ballot p.asked s.ballot in
      let counted = answered_wins w.size s.ballot s.heard from fits p.ballot (scout_counts w.size now) (ap is_win e) in
      let wins = wins_if_quorum (is_quorum w.size now.heard) now ps now.pvalues (sym (answered_counts w.size s.ballot s.heard from fits p.ballot (scout_counts w.size now) counted.0) ∙ e) in
      let has : (x : PValue C) → IsIn x now.pvalues → S x.command = λ x j.
      ⊎_elim (λ old. asks x (told.1 x old).0) (λ new. asks x ((i.promised from to p sent).1 x new).0) (joined_cases eq law s.pvalues p.accepted x j) in
      all_adopted S L.proposals ps (subst (λ xs. (x : PValue C) → IsIn x xs → S x.command) wins.1 has) mine
  step_all s told from to p sent (Yields b) e = yields_all S (in_phase L (Scouting (record { size = w.size; state = None }))) b mine
  step_all s told from to p sent Ignores e = mine

  promise_all : (from to : ℕ) (p : Promise C A) → IsIn (record { from = from; to = to; message = P1b p }) w.sent → AllOf S (hears_promise eq L from p).after.proposals
  promise_all from to p sent =
      go L.phase (i.orderly n).waits (i.backed n)
    where
      go : (phase : Phase C) → FitsPhase w.size L.ballot L.proposals phase → IsBacked w.size w.acceptors w.sent L.ballot L.proposals phase →
          AllOf S (hears_promise_in eq L from p phase).after.proposals
      go Passive fits h = mine
      go (Scouting scout) fits h =
          let is : record { size = w.size; state = Some fits.1.0 } ≡ scout = λ j. record { size = sym fits.0 j; state = sym fits.1.1 j } in
          subst (λ (x : Pending (ScoutState C)). AllOf S (hears_promise_in eq L from p (Scouting x)).after.proposals) is
          (step_all fits.1.0 (h fits.1.0 fits.1.1) from to p sent (scout_hears eq w.size fits.1.0 from p) refl)
      go (Active ks) fits h = mine
      go Over fits h = mine

  pub call_all : (call : Call C A) → IsHeard w.sent n call → IsFit S call → AllOf S (called eq L call).after.proposals
  call_all (Proposes s c) h fit = proposed_all A S L s c fit mine
  call_all (HearsPromise from p) h fit = promise_all from n p h
  call_all (HearsVote from v) h fit = vote_all A S L from v L.phase mine
  call_all (Adopts b ps) h fit = absurd h
  call_all (IsPreempted b) h fit = absurd h
  call_all Campaigns h fit = campaign_all A S L L.phase mine
  call_all Ticks h fit = mine
