-- Messages that were sent: what nodes asked for and voted for, and what more messages leave of it.
use Rattle.std.proofs.Common.{◌≡◌, ◌⊎◌, ℕ, ◌*◌, ◌<◌, ◌≤◌, List, [], ◌∷◌, ◌++◌, true, refl, sym, ap, ◌∙◌, subst, inl, inr, ⊎_elim, arith, eqb, map, append_assoc}
use mathlib.Core.Bool.{◌&&◌}
use Rattle.std.proofs.lemmas.Bool.{true≢false, and_parts, and_from, or_cases, or_left, or_right, eqb-true, eq-eqb}
use Rattle.ballot.specs.Ballots.{BallotNumber}
use Rattle.ballot.specs.Lists.{IsIn}
use Rattle.ballot.specs.Nodes.{count_to}
use Rattle.ballot.specs.declared.pvalue.PValue.{PValue}
use Rattle.ballot.specs.declared.message.Vote.{Vote}
use Rattle.ballot.specs.declared.message.Message.{Message}
use Rattle.ballot.specs.declared.message.Message.TheVariants.{Propose, P1a, P1b, P2a, P2b, Decision, Ask}
use Rattle.ballot.specs.declared.message.Envelope.{Envelope}
use Rattle.ballot.specs.declared.outgoing.Outgoing.{Outgoing}
use Rattle.ballot.proofs.Count.{count_more}
use Rattle.ballot.proofs.Member.{in_left, in_right, in_either}
use Rattle.ballot.proofs.Order.{same_ballot-true, same_ballot_itself}
use Rattle.leader.specs.Calls.{Asks}
use Rattle.runs.specs.Chosen.{pvalue_in, asked, is_vote, voted, IsChosenBy, IsChosen}

-- the vote of an acceptor that has this ballot
abbrev pub vote_of : BallotNumber → ℕ → Vote
vote_of b s = record { asked = b; slot = s; ballot = b }

module _ {C A : Type 0} where
  -- what a node sends, as it is sent
  abbrev pub sent_by : ℕ → List (Outgoing C A) → List (Envelope C A)
  sent_by n sends = map (λ s. record { from = n; to = s.to; message = s.message }) sends

  -- each message that a node sends is from it
  pub in_sent_by : (n : ℕ) (sends : List (Outgoing C A)) (e : Envelope C A) → IsIn e (sent_by n sends) → (n ≡ e.from) × IsIn (record { to = e.to; message = e.message }) sends
  in_sent_by n [] e h = absurd h
  in_sent_by n (s ∷ sends) e h =
      ⊎_elim
      (λ (q : record { from = n; to = s.to; message = s.message } ≡ e). (ap (λ (y : Envelope C A). y.from) q, inl (λ i. record { to = (q i).to; message = (q i).message })))
      (λ t. let x = in_sent_by n sends e t in (x.0, inr x.1))
      h

  pub sent_by_in : (n : ℕ) (sends : List (Outgoing C A)) (s : Outgoing C A) → IsIn s sends → IsIn (record { from = n; to = s.to; message = s.message }) (sent_by n sends)
  sent_by_in n [] s h = absurd h
  sent_by_in n (x ∷ sends) s h =
      ⊎_elim (λ (q : x ≡ s). inl (λ i. record { from = n; to = (q i).to; message = (q i).message })) (λ t. inr (sent_by_in n sends s t)) h

  pub sent_by-append : (n : ℕ) (xs ys : List (Outgoing C A)) → sent_by n (xs ++ ys) ≡ sent_by n xs ++ sent_by n ys
  sent_by-append n [] ys = refl
  sent_by-append n (x ∷ xs) ys = ap (λ es. record { from = n; to = x.to; message = x.message } ∷ es) (sent_by-append n xs ys)

  -- what was asked for
  pub asked-append : (xs ys : List (Envelope C A)) → asked (xs ++ ys) ≡ asked xs ++ asked ys
  asked-append [] ys = refl
  asked-append (x ∷ xs) ys = ap (λ ps. pvalue_in x.message ++ ps) (asked-append xs ys) ∙ sym (append_assoc (pvalue_in x.message) (asked xs) (asked ys))

  pub asked_more : (xs ys : List (Envelope C A)) (p : PValue C) → IsIn p (asked xs) → IsIn p (asked (xs ++ ys))
  asked_more xs ys p h = subst (IsIn p) (sym (asked-append xs ys)) (in_left p (asked xs) (asked ys) h)

  pub asked_either : (xs ys : List (Envelope C A)) (p : PValue C) → IsIn p (asked (xs ++ ys)) → IsIn p (asked xs) ⊎ IsIn p (asked ys)
  asked_either xs ys p h = in_either p (asked xs) (asked ys) (subst (IsIn p) (asked-append xs ys) h)

  pub asked_now : (xs ys : List (Envelope C A)) (p : PValue C) → IsIn p (asked ys) → IsIn p (asked (xs ++ ys))
  asked_now xs ys p h = subst (IsIn p) (sym (asked-append xs ys)) (in_right p (asked xs) (asked ys) h)

  pvalue_is : (m : Message C A) (p : PValue C) → IsIn p (pvalue_in m) → m ≡ P2a p
  pvalue_is (P2a q) p h = ⊎_elim (λ (e : q ≡ p). ap (λ x. P2a x) e) (λ n. absurd n) h
  pvalue_is (Propose s c) p h = absurd h
  pvalue_is (P1a b) p h = absurd h
  pvalue_is (P1b x) p h = absurd h
  pvalue_is (P2b v) p h = absurd h
  pvalue_is (Decision s c) p h = absurd h
  pvalue_is (Ask s) p h = absurd h

  -- a pvalue was asked for by a P2a that was sent
  pub asked_sent : (es : List (Envelope C A)) (p : PValue C) → IsIn p (asked es) → (from : ℕ) × (to : ℕ) × IsIn (record { from = from; to = to; message = P2a p }) es
  asked_sent [] p h = absurd h
  asked_sent (e ∷ es) p h =
      ⊎_elim
      (λ now. let is = pvalue_is e.message p now in (e.from, e.to, inl (λ i. record { from = e.from; to = e.to; message = is i })))
      (λ later. let x = asked_sent es p later in (x.0, x.1, inr x.2))
      (in_either p (pvalue_in e.message) (asked es) h)

  pub sent_asked : (es : List (Envelope C A)) (p : PValue C) (from to : ℕ) → IsIn (record { from = from; to = to; message = P2a p }) es → IsIn p (asked es)
  sent_asked [] p from to h = absurd h
  sent_asked (e ∷ es) p from to h =
      ⊎_elim
      (λ (q : e ≡ record { from = from; to = to; message = P2a p }). in_left p (pvalue_in e.message) (asked es) (subst (λ (y : Envelope C A). IsIn p (pvalue_in y.message)) (sym q) (inl refl)))
      (λ t. in_right p (pvalue_in e.message) (asked es) (sent_asked es p from to t))
      h

  pub asks_of : (n : ℕ) (sends : List (Outgoing C A)) (p : PValue C) → IsIn p (asked (sent_by n sends)) → Asks sends p
  asks_of n sends p h =
      let x = asked_sent (sent_by n sends) p h in
      (x.1, (in_sent_by n sends (record { from = x.0; to = x.1; message = P2a p }) x.2).1)

  pub asks_sent : (n : ℕ) (sends : List (Outgoing C A)) (p : PValue C) → Asks sends p → IsIn p (asked (sent_by n sends))
  asks_sent n sends p h = sent_asked (sent_by n sends) p n h.0 (sent_by_in n sends (record { to = h.0; message = P2a p }) h.1)

  -- node n sent a vote for the ballot in the slot
  abbrev pub Voted : List (Envelope C A) → ℕ → BallotNumber → ℕ → Type 0
  Voted sent n b s = (to : ℕ) × IsIn (record { from = n; to = to; message = P2b (vote_of b s) }) sent

  vote_is : (b : BallotNumber) (s : ℕ) (m : Message C A) → is_vote b s m ≡ true → m ≡ P2b (vote_of b s)
  vote_is b s (P2b v) e =
      let x = and_parts _ _ e in
      let y = and_parts _ _ x.1 in
      let p = same_ballot-true v.asked b x.0 in
      let q = eqb-true v.slot s y.0 in
      let r = same_ballot-true v.ballot b y.1 in
      λ i. P2b (record { asked = p i; slot = q i; ballot = r i })
  vote_is b s (P2a p) e = absurd (true≢false (sym e))
  vote_is b s (Propose t c) e = absurd (true≢false (sym e))
  vote_is b s (P1a a) e = absurd (true≢false (sym e))
  vote_is b s (P1b x) e = absurd (true≢false (sym e))
  vote_is b s (Decision t c) e = absurd (true≢false (sym e))
  vote_is b s (Ask t) e = absurd (true≢false (sym e))

  pub voted_sent : (es : List (Envelope C A)) (b : BallotNumber) (s n : ℕ) → voted es b s n ≡ true → Voted es n b s
  voted_sent [] b s n e = absurd (true≢false (sym e))
  voted_sent (x ∷ es) b s n e =
      ⊎_elim
      (λ now. let f = and_parts _ _ now in
      let from = eqb-true x.from n f.0 in
      let is = vote_is b s x.message f.1 in
      (x.to, inl (λ i. record { from = from i; to = x.to; message = is i })))
      (λ later. let h = voted_sent es b s n later in (h.0, inr h.1))
      (or_cases _ _ e)

  pub sent_voted : (es : List (Envelope C A)) (b : BallotNumber) (s n : ℕ) → Voted es n b s → voted es b s n ≡ true
  sent_voted [] b s n h = absurd h.1
  sent_voted (x ∷ es) b s n h =
      ⊎_elim
      (λ (q : x ≡ record { from = n; to = h.0; message = P2b (vote_of b s) }).
      or_left (eqb x.from n && is_vote b s x.message) (voted es b s n)
      (subst (λ (y : Envelope C A). (eqb y.from n && is_vote b s y.message) ≡ true) (sym q)
      (and_from _ _ (eq-eqb n n refl) (and_from _ _ (same_ballot_itself b) (and_from _ _ (eq-eqb s s refl) (same_ballot_itself b))))))
      (λ t. or_right (eqb x.from n && is_vote b s x.message) (voted es b s n) (sent_voted es b s n (h.0, t)))
      h.1

  pub voted_more : (xs ys : List (Envelope C A)) (b : BallotNumber) (s n : ℕ) → voted xs b s n ≡ true → voted (xs ++ ys) b s n ≡ true
  voted_more xs ys b s n e = let v = voted_sent xs b s n e in sent_voted (xs ++ ys) b s n (v.0, in_left _ xs ys v.1)

  -- what is chosen stays chosen
  pub chosen_by_more : (size : ℕ) (xs ys : List (Envelope C A)) (p : PValue C) → IsChosenBy size xs p → IsChosenBy size (xs ++ ys) p
  chosen_by_more size xs ys p h =
      let many : size < 2 * count_to size (voted xs p.ballot p.slot) = h.1 in
      let more : count_to size (voted xs p.ballot p.slot) ≤ count_to size (voted (xs ++ ys) p.ballot p.slot) =
      count_more size (voted xs p.ballot p.slot) (voted (xs ++ ys) p.ballot p.slot) (voted_more xs ys p.ballot p.slot) in
      (asked_more xs ys p h.0, omega arith)

  pub chosen_more : (size : ℕ) (xs ys : List (Envelope C A)) (s : ℕ) (c : C) → IsChosen size xs s c → IsChosen size (xs ++ ys) s c
  chosen_more size xs ys s c h = (h.0, chosen_by_more size xs ys (record { ballot = h.0; slot = s; command = c }) h.1)
