-- A wait is won exactly at the answer that makes a majority.
use Rattle.std.proofs.Common.{◌≡◌, ◌↔◌, ℕ, ◌*◌, ◌<◌, List, ◌∷◌, length, Bool, true, false, refl, sym, ap, ◌∙◌, subst, ⊎_elim, cond, eqb, Some}
use mathlib.Core.Bool.{not, ◌&&◌, ◌||◌}
use Rattle.std.proofs.lemmas.Bool.{true≢false, and_parts, and_from, ltb-true, lt-ltb, eqb-true, eq-eqb}
use Rattle.ballot.specs.Ballots.{BallotNumber, AtMost, below, same_ballot}
use Rattle.ballot.specs.Nodes.{in_cluster, is_among, AreDistinct, IsMajority}
use Rattle.ballot.specs.declared.pvalue.PValue.{PValue}
use Rattle.ballot.specs.declared.message.Promise.{Promise}
use Rattle.ballot.specs.declared.message.Vote.{Vote}
use Rattle.ballot.proofs.Count.{nodes_counted}
use Rattle.ballot.proofs.Order.{below-false, AtMost-test, most_refl, most_or_below, below_not_most, same_ballot-true, same_ballot_itself}
use Rattle.proposer.specs.declared.commander.Verdict.{Verdict}
use Rattle.proposer.specs.declared.commander.Verdict.TheVariants.{Decided}
use Rattle.proposer.specs.declared.scout.Progress.{Progress}
use Rattle.proposer.specs.Quorums.{Pending, Step, Waits, Wins, Yields, Ignores}
use Rattle.proposer.specs.Scouts.{ScoutState, scout_hears, scout_step, progress_of, is_adopted, IsCounted as IsPromised}
use Rattle.proposer.specs.Commanders.{CommanderState, commander_hears, commander_step, verdict_of, IsCounted as IsVoted}
use Rattle.proposer.proofs.Parts.{answered, is_quorum, scout_counts, with_promise, commander_counts, with_vote}

-- ballots of which neither is below the other
pub same_height : (a b : BallotNumber) → below a b ≡ false → below b a ≡ false → b ≡ a
same_height a b p q =
    ⊎_elim (λ e. e) (λ l. absurd (below_not_most b a l (below-false b a q))) (most_or_below b a (below-false a b p))

abbrev pub is_win : {S R : Type 0} → Step S R → Bool
is_win (Wins r) = true
is_win _ = false

-- an answer is counted
abbrev pub Counts : ℕ → BallotNumber → List ℕ → ℕ → Bool → BallotNumber → Type 0
Counts size mine heard from fits b =
    (in_cluster size from ≡ true) × (fits ≡ true) × (b ≡ mine) × (is_among from heard ≡ false)

module _ {S R : Type 0} (size : ℕ) (mine : BallotNumber) (heard : List ℕ) (from : ℕ) (fits : Bool) (b : BallotNumber) (counted : Step S R) where
  -- if the answer is counted, that is all that happens
  pub answered_counts : Counts size mine heard from fits b → answered size mine heard from fits b counted ≡ counted
  answered_counts h =
      let low : below mine b ≡ false = AtMost-test mine b (subst (λ x. AtMost x mine) (sym h.2) (most_refl mine)) in
      let high : below b mine ≡ false = AtMost-test b mine (subst (λ x. AtMost mine x) (sym h.2) (most_refl mine)) in
      rw (h.0, h.1, low, high, h.3) refl

  -- only an answer that is counted wins
  pub answered_wins : is_win (answered size mine heard from fits b counted) ≡ true → Counts size mine heard from fits b × (is_win counted ≡ true)
  answered_wins =
      go (in_cluster size from && fits) (below mine b) (below b mine) (is_among from heard) refl refl refl refl
    where
      go : (t u v w : Bool) → (in_cluster size from && fits) ≡ t → below mine b ≡ u → below b mine ≡ v → is_among from heard ≡ w →
          is_win (cond (not t) Ignores (cond u (Yields b) (cond (v || w) Ignores counted))) ≡ true → Counts size mine heard from fits b × (is_win counted ≡ true)
      go false u v w p q r s e = absurd (true≢false (sym e))
      go true true v w p q r s e = absurd (true≢false (sym e))
      go true false true w p q r s e = absurd (true≢false (sym e))
      go true false false true p q r s e = absurd (true≢false (sym e))
      go true false false false p q r s e = let a = and_parts _ _ p in ((a.0, a.1, same_height mine b q r, s), e)

-- distinct acceptors of a cluster are a quorum exactly if they are a majority
pub quorum_majority : (size : ℕ) (heard : List ℕ) → AreDistinct size heard → (is_quorum size heard ≡ true) ↔ IsMajority size (λ node. is_among node heard)
quorum_majority size heard h =
    let e = nodes_counted size heard h in (
      λ q. subst (λ n. size < 2 * n) (sym e) (ltb-true size (2 * length heard) q),
      λ m. lt-ltb size (2 * length heard) (subst (λ n. size < 2 * n) e m),
    )

pub wins_if : {S R : Type 0} (t : Bool) (s : S) (r : R) → (is_win {S = S} {R = R} (cond t (Wins r) (Waits s)) ≡ true) ↔ (t ≡ true)
wins_if true s r = ((λ e. refl), λ e. refl)
wins_if false s r = ((λ e. e), λ e. e)

pub verdict_win : (s : Step CommanderState (Unit {0})) → (verdict_of s ≡ Decided) ↔ (is_win s ≡ true)
verdict_win (Waits k) = ((λ e. absurd (cc)), λ e. absurd (true≢false (sym e)))
verdict_win (Wins r) = ((λ e. refl), λ e. refl)
verdict_win (Yields b) = ((λ e. absurd (cc)), λ e. absurd (true≢false (sym e)))
verdict_win Ignores = ((λ e. absurd (cc)), λ e. absurd (true≢false (sym e)))

-- a commander decides exactly at the vote that makes a majority
pub decided_exactly : (size : ℕ) (k : CommanderState) (from : ℕ) (v : Vote) → AreDistinct size k.heard →
    (verdict_of (commander_hears size k from v) ≡ Decided) ↔ (IsVoted size k from v × IsMajority size (λ node. is_among node (from ∷ k.heard)))
decided_exactly size k from v h = (to, back)
  where
    fits : Bool
    fits = same_ballot v.asked k.ballot && eqb v.slot k.slot

    counted : Step CommanderState (Unit {0})
    counted = commander_counts size (with_vote k from)

    quorum : Bool
    quorum = is_quorum size (from ∷ k.heard)

    to : verdict_of (commander_hears size k from v) ≡ Decided → IsVoted size k from v × IsMajority size (λ node. is_among node (from ∷ k.heard))
    to e =
        let a = answered_wins size k.ballot k.heard from fits v.ballot counted ((verdict_win (commander_hears size k from v)).0 e) in
        let p = and_parts _ _ a.0.1 in (
          (a.0.0, same_ballot-true v.asked k.ballot p.0, eqb-true v.slot k.slot p.1, a.0.2, a.0.3),
          (quorum_majority size (from ∷ k.heard) (a.0.0, a.0.3, h)).0 ((wins_if quorum (with_vote k from) tt).0 a.1),
        )

    back : IsVoted size k from v × IsMajority size (λ node. is_among node (from ∷ k.heard)) → verdict_of (commander_hears size k from v) ≡ Decided
    back (c, m) =
        let asked : same_ballot v.asked k.ballot ≡ true = subst (λ b. same_ballot v.asked b ≡ true) c.1 (same_ballot_itself v.asked) in
        let e : commander_hears size k from v ≡ counted =
        answered_counts size k.ballot k.heard from fits v.ballot counted (c.0, and_from _ _ asked (eq-eqb v.slot k.slot c.2), c.3, c.4) in
        let q = (quorum_majority size (from ∷ k.heard) (c.0, c.4, h)).1 m in
        (verdict_win (commander_hears size k from v)).1 (ap is_win e ∙ (wins_if quorum (with_vote k from) tt).1 q)

-- the same, of a commander in a cluster and what it answers
abbrev Decides : Pending CommanderState → ℕ → Vote → Verdict → Type 0
Decides old from v r =
    r ≡ verdict_of (commander_step old from v) → (k : CommanderState) → old.state ≡ Some k →
    (r ≡ Decided) ↔ (IsVoted old.size k from v × IsMajority old.size (λ node. is_among node (from ∷ k.heard)))

pub decides : (size : ℕ) (j : CommanderState) (from : ℕ) (v : Vote) (r : Verdict) → AreDistinct size j.heard →
    (old : Pending CommanderState) → record { size = size; state = Some j } ≡ old → Decides old from v r
decides size j from v r h old is = subst (λ o. Decides o from v r) is here
  where
    here : Decides (record { size = size; state = Some j }) from v r
    here answer k e =
        let same : j ≡ k = cc in
        let exactly = decided_exactly size k from v (subst (λ (x : CommanderState). AreDistinct size x.heard) same h) in
        let heard : r ≡ verdict_of (commander_hears size k from v) = answer ∙ ap (λ x. verdict_of (commander_hears size x from v)) same in
        ((λ d. exactly.0 (sym heard ∙ d)), λ x. heard ∙ exactly.1 x)

module _ {C A : Type 0} where
  adopted_win : (s : Step (ScoutState C) (List (PValue C))) (p : Progress C A) → p ≡ progress_of s → (is_adopted p ≡ true) ↔ (is_win s ≡ true)
  adopted_win (Waits k) p e = rw e ((λ x. x), λ x. x)
  adopted_win (Wins r) p e = rw e ((λ x. refl), λ x. refl)
  adopted_win (Yields b) p e = rw e ((λ x. x), λ x. x)
  adopted_win Ignores p e = rw e ((λ x. x), λ x. x)

  -- a scout adopts exactly at the promise that makes a majority
  pub adopted_exactly : (eq : C → C → Bool) (size : ℕ) (s : ScoutState C) (from : ℕ) (p : Promise C A) (r : Progress C A) → AreDistinct size s.heard → r ≡ progress_of (scout_hears eq size s from p) →
      (is_adopted r ≡ true) ↔ (IsPromised size s from p × IsMajority size (λ node. is_among node (from ∷ s.heard)))
  adopted_exactly eq size s from p r h answer = (to, back)
    where
      fits : Bool
      fits = same_ballot p.asked s.ballot

      counted : Step (ScoutState C) (List (PValue C))
      counted = scout_counts size (with_promise eq s from p)

      quorum : Bool
      quorum = is_quorum size (from ∷ s.heard)

      to : is_adopted r ≡ true → IsPromised size s from p × IsMajority size (λ node. is_among node (from ∷ s.heard))
      to e =
          let a = answered_wins size s.ballot s.heard from fits p.ballot counted ((adopted_win (scout_hears eq size s from p) r answer).0 e) in (
            (a.0.0, same_ballot-true p.asked s.ballot a.0.1, a.0.2, a.0.3),
            (quorum_majority size (from ∷ s.heard) (a.0.0, a.0.3, h)).0 ((wins_if quorum (with_promise eq s from p) (with_promise eq s from p).pvalues).0 a.1),
          )

      back : IsPromised size s from p × IsMajority size (λ node. is_among node (from ∷ s.heard)) → is_adopted r ≡ true
      back (c, m) =
          let asked : same_ballot p.asked s.ballot ≡ true = subst (λ b. same_ballot p.asked b ≡ true) c.1 (same_ballot_itself p.asked) in
          let e : scout_hears eq size s from p ≡ counted = answered_counts size s.ballot s.heard from fits p.ballot counted (c.0, asked, c.2, c.3) in
          let q = (quorum_majority size (from ∷ s.heard) (c.0, c.3, h)).1 m in
          (adopted_win (scout_hears eq size s from p) r answer).1 (ap is_win e ∙ (wins_if quorum (with_promise eq s from p) (with_promise eq s from p).pvalues).1 q)

  -- the same, of a scout in a cluster and what it answers
  abbrev Adopts : (C → C → Bool) → Pending (ScoutState C) → ℕ → Promise C A → Progress C A → Type 0
  Adopts eq old from p r =
      r ≡ progress_of (scout_step eq old from p) → (s : ScoutState C) → old.state ≡ Some s →
      (is_adopted r ≡ true) ↔ (IsPromised old.size s from p × IsMajority old.size (λ node. is_among node (from ∷ s.heard)))

  pub adopts : (eq : C → C → Bool) (size : ℕ) (j : ScoutState C) (from : ℕ) (p : Promise C A) (r : Progress C A) → AreDistinct size j.heard →
      (old : Pending (ScoutState C)) → record { size = size; state = Some j } ≡ old → Adopts eq old from p r
  adopts eq size j from p r h old is = subst (λ o. Adopts eq o from p r) is here
    where
      here : Adopts eq (record { size = size; state = Some j }) from p r
      here answer s e =
          let same : j ≡ s = cc in
          adopted_exactly eq size s from p r
          (subst (λ (x : ScoutState C). AreDistinct size x.heard) same h)
          (answer ∙ ap (λ x. progress_of (scout_hears eq size x from p)) same)
