-- What a scout or a commander that waits has heard in all the answers so far.
use Rattle.std.proofs.Common.{◌≡◌, ◌⊎◌, ℕ, List, [], ◌∷◌, ◌++◌, Bool, true, false, Option, Some, None, refl, sym, ap, ◌∙◌, subst, inl, inr, ⊎_elim, cond, eqb, append_assoc}
use mathlib.Core.Bool.{not, ◌&&◌, ◌||◌}
use Rattle.std.proofs.lemmas.Bool.{and_parts, or_cases, eqb-true, eq-eqb}
use Rattle.std.proofs.lemmas.List.{append-nil}
use Rattle.ballot.specs.Ballots.{BallotNumber, below, same_ballot}
use Rattle.ballot.specs.Lists.{IsIn}
use Rattle.ballot.specs.Nodes.{in_cluster, is_among}
use Rattle.ballot.specs.declared.pvalue.PValue.{PValue}
use Rattle.ballot.specs.declared.message.Promise.{Promise}
use Rattle.ballot.specs.declared.message.Vote.{Vote}
use Rattle.ballot.proofs.Member.{IsEquality, in_left, in_last, joined_old, joined_new, joined_cases}
use Rattle.ballot.proofs.Order.{same_ballot-true}
use Rattle.proposer.specs.Quorums.{Pending, Step, Waits, Wins, Yields, Ignores, left_by}
use Rattle.proposer.specs.Scouts.{ScoutState, new_scout, scout_hears, scout_after, scout_step, HasPromises, IsAdoption}
use Rattle.proposer.specs.Commanders.{CommanderState, new_commander, commander_hears, commander_step, verdict_of, commander_after, HasVotes, IsDecision}
use Rattle.proposer.specs.declared.commander.Verdict.TheVariants.{Decided}
use Rattle.proposer.proofs.Wins.{Counts, is_win, same_height, answered_counts, answered_wins, quorum_majority, wins_if, verdict_win}
use Rattle.proposer.proofs.Parts.{while_waiting, answered, is_quorum, scout_counts, with_promise, commander_counts, with_vote}

-- what waits after an answer that changes something has counted it
pub answered_waits : {S R : Type 0} (size : ℕ) (mine : BallotNumber) (heard : List ℕ) (from : ℕ) (fits : Bool) (b : BallotNumber) (counted : Step S R) (s : S) →
    answered size mine heard from fits b counted ≡ Waits s → Counts size mine heard from fits b × (counted ≡ Waits s)
answered_waits {S} {R} size mine heard from fits b counted s =
    go (in_cluster size from && fits) (below mine b) (below b mine) (is_among from heard) refl refl refl refl
  where
    go : (t u v w : Bool) → (in_cluster size from && fits) ≡ t → below mine b ≡ u → below b mine ≡ v → is_among from heard ≡ w →
        ◌≡◌ {A = Step S R} (cond (not t) Ignores (cond u (Yields b) (cond (v || w) Ignores counted))) (Waits s) → Counts size mine heard from fits b × (counted ≡ Waits s)
    go false u v w p q r x e = absurd (cc)
    go true true v w p q r x e = absurd (cc)
    go true false true w p q r x e = absurd (cc)
    go true false false true p q r x e = absurd (cc)
    go true false false false p q r x e = let a = and_parts _ _ p in ((a.0, a.1, same_height mine b q r, x), e)

pub waits_if : {S R : Type 0} (t : Bool) (s u : S) (r : R) → ◌≡◌ {A = Step S R} (cond t (Wins r) (Waits s)) (Waits u) → s ≡ u
waits_if true s u r e = absurd (cc)
waits_if false s u r e = cc

-- only a higher ballot ends the wait
pub answered_yields : {S R : Type 0} (size : ℕ) (mine : BallotNumber) (heard : List ℕ) (from : ℕ) (fits : Bool) (b : BallotNumber) (counted : Step S R) (c : BallotNumber) →
    (counted ≡ Yields c → ⊥) → answered size mine heard from fits b counted ≡ Yields c → below mine c ≡ true
answered_yields {S} {R} size mine heard from fits b counted c never =
    go (in_cluster size from && fits) (below mine b) (below b mine || is_among from heard) refl
  where
    go : (t u v : Bool) → below mine b ≡ u → ◌≡◌ {A = Step S R} (cond (not t) Ignores (cond u (Yields b) (cond v Ignores counted))) (Yields c) → below mine c ≡ true
    go false u v q e = absurd (cc)
    go true true v q e = let same : b ≡ c = cc in subst (λ x. below mine x ≡ true) same q
    go true false true q e = absurd (cc)
    go true false false q e = absurd (never e)

pub never_yields : {S R : Type 0} (t : Bool) (s : S) (r : R) (c : BallotNumber) → ◌≡◌ {A = Step S R} (cond t (Wins r) (Waits s)) (Yields c) → ⊥
never_yields true s r c e = absurd (cc)
never_yields false s r c e = absurd (cc)

-- a node among those counted is the new one or an old one
pub among_cases : (node from : ℕ) (heard : List ℕ) → is_among node (from ∷ heard) ≡ true → (node ≡ from) ⊎ (is_among node heard ≡ true)
among_cases node from heard e = ⊎_elim (λ q. inl (eqb-true node from q)) (λ q. inr q) (or_cases _ _ e)

pub wins_if_quorum : {C : Type 0} (t : Bool) (s : ScoutState C) (ps qs : List (PValue C)) → ◌≡◌ {A = Step (ScoutState C) (List (PValue C))} (cond t (Wins qs) (Waits s)) (Wins ps) → (t ≡ true) × (qs ≡ ps)
wins_if_quorum true s ps qs e = (refl, cc)
wins_if_quorum false s ps qs e = absurd (cc)

pub among_first : (from : ℕ) (heard : List ℕ) → is_among from (from ∷ heard) ≡ true
among_first from heard = rw (eq-eqb from from refl) refl

pub among_more : (node from : ℕ) (heard : List ℕ) → is_among node heard ≡ true → is_among node (from ∷ heard) ≡ true
among_more node from heard e =
    go (eqb node from)
  where
    go : (t : Bool) → (t || is_among node heard) ≡ true
    go true = refl
    go false = e

module _ {C A : Type 0} (eq : C → C → Bool) (law : IsEquality eq) (size : ℕ) (b : BallotNumber) where
  more_promises : (answers : List (ℕ × Promise C A)) (a : ℕ × Promise C A) (s : ScoutState C) → HasPromises answers size b s → HasPromises (answers ++ a ∷ []) size b s
  more_promises answers a s h =
      record {
        mine = h.mine;
        distinct = h.distinct;
        promised = λ node q. let x = h.promised node q in (x.0, in_left _ answers (a ∷ []) x.1, x.2, x.3, x.4);
        told = λ x q. let y = h.told x q in (y.0, y.1, in_left _ answers (a ∷ []) y.2, y.3, y.4, y.5, y.6);
      }

  one_promise : (answers : List (ℕ × Promise C A)) (s : ScoutState C) (from : ℕ) (p : Promise C A) → HasPromises answers size b s →
      Counts size s.ballot s.heard from (same_ballot p.asked s.ballot) p.ballot → HasPromises (answers ++ (from, p) ∷ []) size b (with_promise eq s from p)
  one_promise answers s from p h c =
      record {
        mine = h.mine;
        distinct = (c.0, c.3, h.distinct);
        promised = λ node q.
            ⊎_elim
            (λ (e : node ≡ from). (p, subst (λ n. IsIn (n, p) (answers ++ (from, p) ∷ [])) (sym e) (in_last (from, p) answers), same_ballot-true p.asked s.ballot c.1 ∙ h.mine, c.2 ∙ h.mine, λ x i. joined_new eq law s.pvalues p.accepted x i))
            (λ (e : is_among node s.heard ≡ true). let x = h.promised node e in (x.0, in_left _ answers _ x.1, x.2, x.3, λ y i. joined_old eq law s.pvalues p.accepted y (x.4 y i)))
            (among_cases node from s.heard q);
        told = λ x q.
            ⊎_elim
            (λ (i : IsIn x s.pvalues). let y = h.told x i in (y.0, y.1, in_left _ answers _ y.2, among_more y.0 from s.heard y.3, y.4, y.5, y.6))
            (λ (i : IsIn x p.accepted). (from, p, in_last (from, p) answers, among_first from s.heard, same_ballot-true p.asked s.ballot c.1 ∙ h.mine, c.2 ∙ h.mine, i))
            (joined_cases eq law s.pvalues p.accepted x q);
      }

  next_promise : (answers : List (ℕ × Promise C A)) (s : ScoutState C) (from : ℕ) (p : Promise C A) → HasPromises answers size b s →
      (t : ScoutState C) → left_by (Some s) (scout_hears eq size s from p) ≡ Some t → HasPromises (answers ++ (from, p) ∷ []) size b t
  next_promise answers s from p h t =
      go (scout_hears eq size s from p) refl
    where
      go : (o : Step (ScoutState C) (List (PValue C))) → scout_hears eq size s from p ≡ o → left_by (Some s) o ≡ Some t → HasPromises (answers ++ (from, p) ∷ []) size b t
      go (Waits u) e q =
          let a = answered_waits size s.ballot s.heard from (same_ballot p.asked s.ballot) p.ballot (scout_counts size (with_promise eq s from p)) u e in
          let one : with_promise eq s from p ≡ u = waits_if (is_quorum size (from ∷ s.heard)) (with_promise eq s from p) u (with_promise eq s from p).pvalues a.1 in
          let same : u ≡ t = cc in
          subst (HasPromises (answers ++ (from, p) ∷ []) size b) (one ∙ same) (one_promise answers s from p h a.0)
      go (Wins r) e q = absurd (cc)
      go (Yields c) e q = absurd (cc)
      go Ignores e q = let same : s ≡ t = cc in subst (HasPromises (answers ++ (from, p) ∷ []) size b) same (more_promises answers (from, p) s h)

  all_promises : (before answers : List (ℕ × Promise C A)) (old : Option (ScoutState C)) → ((s : ScoutState C) → old ≡ Some s → HasPromises before size b s) →
      (t : ScoutState C) → (scout_after eq (record { size = size; state = old }) answers).state ≡ Some t → HasPromises (before ++ answers) size b t
  all_promises before [] old h t e = subst (λ l. HasPromises l size b t) (sym (append-nil before)) (h t e)
  all_promises before (a ∷ answers) old h t e =
      subst (λ l. HasPromises l size b t) (append_assoc before (a ∷ []) answers)
      (all_promises (before ++ a ∷ []) answers (left_by old (while_waiting old (λ s. scout_hears eq size s a.0 a.1))) (one old h) t e)
    where
      one : (o : Option (ScoutState C)) → ((s : ScoutState C) → o ≡ Some s → HasPromises before size b s) →
          (s : ScoutState C) → left_by o (while_waiting o (λ s. scout_hears eq size s a.0 a.1)) ≡ Some s → HasPromises (before ++ a ∷ []) size b s
      one None k s q = absurd (cc)
      one (Some u) k s q = next_promise before u a.0 a.1 (k u refl) s q

  -- a scout that waits has counted promises of its ballot, and holds what they told
  pub scouts_count : (answers : List (ℕ × Promise C A)) (t : ScoutState C) → (scout_after eq (record { size = size; state = Some (new_scout b) }) answers).state ≡ Some t → HasPromises answers size b t
  scouts_count answers t e =
      all_promises [] answers (Some (new_scout b))
      (λ s q. let same : new_scout b ≡ s = cc in subst (HasPromises [] size b) same (record { mine = refl; distinct = tt; promised = λ node r. absurd (cc); told = λ x r. absurd r }))
      t e

  size_stays : (old : Option (ScoutState C)) (answers : List (ℕ × Promise C A)) → (scout_after eq (record { size = size; state = old }) answers).size ≡ size
  size_stays old [] = refl
  size_stays old (a ∷ answers) = size_stays (left_by old (while_waiting old (λ s. scout_hears eq size s a.0 a.1))) answers

  last_promise : (answers : List (ℕ × Promise C A)) (from : ℕ) (p : Promise C A) (ps : List (PValue C)) (old : Option (ScoutState C)) →
      ((s : ScoutState C) → old ≡ Some s → HasPromises answers size b s) → while_waiting old (λ s. scout_hears eq size s from p) ≡ Wins ps → IsAdoption (answers ++ (from, p) ∷ []) size b ps
  last_promise answers from p ps None h e = absurd (cc)
  last_promise answers from p ps (Some s) h e =
      let now : ScoutState C = with_promise eq s from p in
      let fits : Bool = same_ballot p.asked s.ballot in
      let counted = answered_wins size s.ballot s.heard from fits p.ballot (scout_counts size now) (ap is_win e) in
      let wins = wins_if_quorum (is_quorum size now.heard) now ps now.pvalues (sym (answered_counts size s.ballot s.heard from fits p.ballot (scout_counts size now) counted.0) ∙ e) in
      let has = one_promise answers s from p (h s refl) counted.0 in
      (now, wins.1, has, (quorum_majority size now.heard has.distinct).0 wins.0)

  -- what a scout adopts are the pvalues of a majority that promised its ballot
  pub adoptions_are_promised : (answers : List (ℕ × Promise C A)) (from : ℕ) (p : Promise C A) (ps : List (PValue C)) →
      scout_step eq (scout_after eq (record { size = size; state = Some (new_scout b) }) answers) from p ≡ Wins ps → IsAdoption (answers ++ (from, p) ∷ []) size b ps
  adoptions_are_promised answers from p ps e =
      let scout : Pending (ScoutState C) = scout_after eq (record { size = size; state = Some (new_scout b) }) answers in
      last_promise answers from p ps scout.state (scouts_count answers)
      (subst (λ n. while_waiting scout.state (λ s. scout_hears eq n s from p) ≡ Wins ps) (size_stays (Some (new_scout b)) answers) e)

module _ (size : ℕ) (b : BallotNumber) (slot : ℕ) where
  more_votes : (answers : List (ℕ × Vote)) (a : ℕ × Vote) (k : CommanderState) → HasVotes answers size b slot k → HasVotes (answers ++ a ∷ []) size b slot k
  more_votes answers a k h =
      record {
        mine = h.mine;
        its_slot = h.its_slot;
        distinct = h.distinct;
        voted = λ node q. let x = h.voted node q in (x.0, in_left _ answers (a ∷ []) x.1, x.2, x.3, x.4);
      }

  one_vote : (answers : List (ℕ × Vote)) (k : CommanderState) (from : ℕ) (v : Vote) → HasVotes answers size b slot k →
      Counts size k.ballot k.heard from (same_ballot v.asked k.ballot && eqb v.slot k.slot) v.ballot → HasVotes (answers ++ (from, v) ∷ []) size b slot (with_vote k from)
  one_vote answers k from v h c =
      let fits = and_parts _ _ c.1 in
      record {
        mine = h.mine;
        its_slot = h.its_slot;
        distinct = (c.0, c.3, h.distinct);
        voted = λ node q.
            ⊎_elim
            (λ (e : node ≡ from). (v, subst (λ n. IsIn (n, v) (answers ++ (from, v) ∷ [])) (sym e) (in_last (from, v) answers), same_ballot-true v.asked k.ballot fits.0 ∙ h.mine, eqb-true v.slot k.slot fits.1 ∙ h.its_slot, c.2 ∙ h.mine))
            (λ (e : is_among node k.heard ≡ true). let x = h.voted node e in (x.0, in_left _ answers _ x.1, x.2, x.3, x.4))
            (among_cases node from k.heard q);
      }

  next_vote : (answers : List (ℕ × Vote)) (k : CommanderState) (from : ℕ) (v : Vote) → HasVotes answers size b slot k →
      (t : CommanderState) → left_by (Some k) (commander_hears size k from v) ≡ Some t → HasVotes (answers ++ (from, v) ∷ []) size b slot t
  next_vote answers k from v h t =
      go (commander_hears size k from v) refl
    where
      go : (o : Step CommanderState (Unit {0})) → commander_hears size k from v ≡ o → left_by (Some k) o ≡ Some t → HasVotes (answers ++ (from, v) ∷ []) size b slot t
      go (Waits u) e q =
          let a = answered_waits size k.ballot k.heard from (same_ballot v.asked k.ballot && eqb v.slot k.slot) v.ballot (commander_counts size (with_vote k from)) u e in
          let one : with_vote k from ≡ u = waits_if (is_quorum size (from ∷ k.heard)) (with_vote k from) u tt a.1 in
          let same : u ≡ t = cc in
          subst (HasVotes (answers ++ (from, v) ∷ []) size b slot) (one ∙ same) (one_vote answers k from v h a.0)
      go (Wins r) e q = absurd (cc)
      go (Yields c) e q = absurd (cc)
      go Ignores e q = let same : k ≡ t = cc in subst (HasVotes (answers ++ (from, v) ∷ []) size b slot) same (more_votes answers (from, v) k h)

  all_votes : (before answers : List (ℕ × Vote)) (old : Option CommanderState) → ((k : CommanderState) → old ≡ Some k → HasVotes before size b slot k) →
      (t : CommanderState) → (commander_after (record { size = size; state = old }) answers).state ≡ Some t → HasVotes (before ++ answers) size b slot t
  all_votes before [] old h t e = subst (λ l. HasVotes l size b slot t) (sym (append-nil before)) (h t e)
  all_votes before (a ∷ answers) old h t e =
      subst (λ l. HasVotes l size b slot t) (append_assoc before (a ∷ []) answers)
      (all_votes (before ++ a ∷ []) answers (left_by old (while_waiting old (λ k. commander_hears size k a.0 a.1))) (one old h) t e)
    where
      one : (o : Option CommanderState) → ((k : CommanderState) → o ≡ Some k → HasVotes before size b slot k) →
          (k : CommanderState) → left_by o (while_waiting o (λ x. commander_hears size x a.0 a.1)) ≡ Some k → HasVotes (before ++ a ∷ []) size b slot k
      one None h k q = absurd (cc)
      one (Some u) h k q = next_vote before u a.0 a.1 (h u refl) k q

  -- a commander that waits has counted votes for its ballot and slot
  pub commanders_count : (answers : List (ℕ × Vote)) (t : CommanderState) → (commander_after (record { size = size; state = Some (new_commander b slot) }) answers).state ≡ Some t → HasVotes answers size b slot t
  commanders_count answers t e =
      all_votes [] answers (Some (new_commander b slot))
      (λ k q. let same : new_commander b slot ≡ k = cc in subst (HasVotes [] size b slot) same (record { mine = refl; its_slot = refl; distinct = tt; voted = λ node r. absurd (cc) }))
      t e

  cluster_stays : (old : Option CommanderState) (answers : List (ℕ × Vote)) → (commander_after (record { size = size; state = old }) answers).size ≡ size
  cluster_stays old [] = refl
  cluster_stays old (a ∷ answers) = cluster_stays (left_by old (while_waiting old (λ k. commander_hears size k a.0 a.1))) answers

  last_vote : (answers : List (ℕ × Vote)) (from : ℕ) (v : Vote) (old : Option CommanderState) →
      ((k : CommanderState) → old ≡ Some k → HasVotes answers size b slot k) → is_win (while_waiting old (λ k. commander_hears size k from v)) ≡ true → IsDecision (answers ++ (from, v) ∷ []) size b slot
  last_vote answers from v None h e = absurd (cc)
  last_vote answers from v (Some k) h e =
      let now : CommanderState = with_vote k from in
      let counted = answered_wins size k.ballot k.heard from (same_ballot v.asked k.ballot && eqb v.slot k.slot) v.ballot (commander_counts size now) e in
      let has = one_vote answers k from v (h k refl) counted.0 in
      (now, has, (quorum_majority size now.heard has.distinct).0 ((wins_if (is_quorum size now.heard) now tt).0 counted.1))

  -- what decides is a majority of votes for its ballot and slot
  pub decisions_are_voted : (answers : List (ℕ × Vote)) (from : ℕ) (v : Vote) →
      verdict_of (commander_step (commander_after (record { size = size; state = Some (new_commander b slot) }) answers) from v) ≡ Decided → IsDecision (answers ++ (from, v) ∷ []) size b slot
  decisions_are_voted answers from v e =
      let commander : Pending CommanderState = commander_after (record { size = size; state = Some (new_commander b slot) }) answers in
      last_vote answers from v commander.state (commanders_count answers)
      (subst (λ n. is_win (while_waiting commander.state (λ k. commander_hears n k from v)) ≡ true) (cluster_stays (Some (new_commander b slot)) answers)
      ((verdict_win (commander_step commander from v)).0 e))
