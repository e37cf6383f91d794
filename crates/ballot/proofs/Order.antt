-- The order of ballots, and induction along it.
use Rattle.std.proofs.Common.{◌≡◌, ◌⊎◌, ℕ, zero, suc, ◌<◌, ◌≤◌, Bool, true, false, refl, sym, ◌∙◌, inl, inr, ⊎_elim, arith}
use Rattle.std.proofs.lemmas.Bool.{ltb-true, ltb-false, eqb-true, eqb-false, eq-eqb, or_cases, or_parts, and_parts, and_cases, and_from, cases_order}
use Rattle.ballot.specs.Ballots.{BallotNumber, Below, AtMost, below, same_ballot}

-- ballots of one round and one leader are one ballot
pub same : (a b : BallotNumber) → a.round ≡ b.round → a.leader ≡ b.leader → a ≡ b
same a b p q = λ i. record { round = p i; leader = q i }

pub below_trans : (a b c : BallotNumber) → Below a b → Below b c → Below a c
below_trans a b c p q = grind arith

pub most_below : (a b c : BallotNumber) → AtMost a b → Below b c → Below a c
most_below a b c p q = grind arith

pub below_most : (a b c : BallotNumber) → Below a b → AtMost b c → Below a c
below_most a b c p q = grind arith

pub most_trans : (a b c : BallotNumber) → AtMost a b → AtMost b c → AtMost a c
most_trans a b c p q = grind arith

pub most_refl : (a : BallotNumber) → AtMost a a
most_refl a = inr (refl, omega arith)

pub below_to_most : (a b : BallotNumber) → Below a b → AtMost a b
below_to_most a b p = grind arith

pub not_below_itself : (a : BallotNumber) → Below a a → ⊥
not_below_itself a p = grind arith

pub below_not_most : (a b : BallotNumber) → Below a b → AtMost b a → ⊥
below_not_most a b p q = grind arith

-- of two ballots one is below the other, or they are one
pub three : (a b : BallotNumber) → (a ≡ b) ⊎ (Below a b ⊎ Below b a)
three a b =
    ⊎_elim
    (λ (r : a.round ≡ b.round).
    ⊎_elim
    (λ (l : a.leader ≡ b.leader). inl (same a b r l))
    (λ o. inr (⊎_elim (λ (l : a.leader < b.leader). inl (inr (r, l))) (λ (l : b.leader < a.leader). inr (inr (sym r, l))) o))
    (cases_order a.leader b.leader))
    (λ o. inr (⊎_elim (λ (l : a.round < b.round). inl (inl l)) (λ (l : b.round < a.round). inr (inl l)) o))
    (cases_order a.round b.round)

-- what the tests tell
pub below-true : (a b : BallotNumber) → below a b ≡ true → Below a b
below-true a b e =
    ⊎_elim
    (λ r. inl (ltb-true a.round b.round r))
    (λ s. let t = and_parts _ _ s in inr (eqb-true a.round b.round t.0, ltb-true a.leader b.leader t.1))
    (or_cases _ _ e)

pub below-false : (a b : BallotNumber) → below a b ≡ false → AtMost b a
below-false a b e =
    let p = or_parts _ _ e in
    let r : b.round ≤ a.round = ltb-false a.round b.round p.0 in
    ⊎_elim
    (λ n. let ne : a.round ≡ b.round → ⊥ = eqb-false a.round b.round n in grind arith)
    (λ n. let l : b.leader ≤ a.leader = ltb-false a.leader b.leader n in grind arith)
    (and_cases _ _ p.1)

pub Below-test : (a b : BallotNumber) → Below a b → below a b ≡ true
Below-test a b h =
    go (below a b) refl
  where
    go : (t : Bool) → below a b ≡ t → t ≡ true
    go true e = refl
    go false e = absurd (below_not_most a b h (below-false a b e))

pub AtMost-test : (a b : BallotNumber) → AtMost b a → below a b ≡ false
AtMost-test a b h =
    go (below a b) refl
  where
    go : (t : Bool) → below a b ≡ t → t ≡ false
    go true e = absurd (below_not_most a b (below-true a b e) h)
    go false e = refl

pub same_ballot-true : (a b : BallotNumber) → same_ballot a b ≡ true → a ≡ b
same_ballot-true a b e = let p = and_parts _ _ e in same a b (eqb-true a.round b.round p.0) (eqb-true a.leader b.leader p.1)

pub same_ballot_itself : (a : BallotNumber) → same_ballot a a ≡ true
same_ballot_itself a = and_from _ _ (eq-eqb a.round a.round refl) (eq-eqb a.leader a.leader refl)

pub most_or_below : (a b : BallotNumber) → AtMost a b → (a ≡ b) ⊎ Below a b
most_or_below a b p =
    ⊎_elim (λ e. inl e) (λ o. ⊎_elim (λ l. inr l) (λ g. absurd (below_not_most b a g p)) o) (three a b)

-- what holds of a ballot if it holds of all below it, holds of each
pub by_ballots : (P : BallotNumber → Type 0) → ((b : BallotNumber) → ((a : BallotNumber) → Below a b → P a) → P b) → (b : BallotNumber) → P b
by_ballots P step b = rounds (suc b.round) b (omega arith)
  where
    leaders : (r : ℕ) → ((a : BallotNumber) → a.round < r → P a) → (k : ℕ) → (a : BallotNumber) → a.round ≡ r → a.leader < k → P a
    leaders r less zero a e l = absurd (omega arith)
    leaders r less (suc k) a e l =
        step a (λ x lower. ⊎_elim
        (λ (q : x.round < a.round). less x (omega arith))
        (λ (q : (x.round ≡ a.round) × (x.leader < a.leader)). leaders r less k x (q.0 ∙ e) (omega arith))
        lower)

    rounds : (n : ℕ) → (a : BallotNumber) → a.round < n → P a
    rounds zero a l = absurd (omega arith)
    rounds (suc n) a l =
        ⊎_elim
        (λ (e : a.round ≡ n). leaders n (rounds n) (suc a.leader) a e (omega arith))
        (λ o. rounds n a (⊎_elim (λ (q : a.round < n). q) (λ (q : n < a.round). absurd (omega arith)) o))
        (cases_order a.round n)
