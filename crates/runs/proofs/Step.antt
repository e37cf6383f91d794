-- A step of one node keeps the invariant.
use Rattle.std.proofs.Common.{◌≡◌, ◌⊎◌, ℕ, List, ◌++◌, true, refl, sym, ap, ◌∙◌, subst, inl, inr, ⊎_elim}
use Rattle.std.proofs.lemmas.Bool.{true≢false}
use Rattle.ballot.specs.Ballots.{BallotNumber, AtMost}
use Rattle.ballot.specs.Lists.{IsIn}
use Rattle.ballot.specs.declared.pvalue.PValue.{PValue}
use Rattle.ballot.specs.declared.message.Promise.{Promise}
use Rattle.ballot.specs.declared.message.Message.TheVariants.{P1b, P2b}
use Rattle.ballot.specs.declared.message.Envelope.{Envelope}
use Rattle.ballot.specs.declared.outgoing.Outgoing.{Outgoing}
use Rattle.ballot.proofs.Member.{in_either}
use Rattle.acceptor.specs.Acceptors.{AcceptorState, Reached, Holds, HasReached}
use Rattle.leader.specs.Leaders.{LeaderState, Phase, Passive, Scouting, Active, Over, phase_is_active}
use Rattle.leader.specs.Calls.{Asks, IsAsked, IsOrderly}
use Rattle.leader.proofs.Asked.{Past, asked_stands, stands_active, one_command}
use Rattle.runs.specs.Chosen.{asked}
use Rattle.runs.proofs.Chosen.{Voted, vote_of, sent_by, in_sent_by, asked_more, asked_either, asks_of}
use Rattle.runs.proofs.Invariant.{Roles, put, moved, Covers, AreUpTo, Backs, IsChoice, AreChoices, IsBacked, IsLeaderBacked, Sound}
use Rattle.runs.proofs.Grow.{put_each, put_here, Advances, AllAdvance, covers_on, up_to_on, backs_on, backed_on}

module _ {C A : Type 0} where
  -- what a step of node n has to show: the acceptor and the leader that it leaves, and what it sends
  pub record Steps (w : Roles C A) (n : ℕ) (a : AcceptorState C) (l : LeaderState C) (sends : List (Outgoing C A)) : Type 0 where
    -- the acceptor's ballot doesn't fall, and each slot keeps something as high
    pub rises : (c : BallotNumber) → Reached (w.acceptors n).ballot c → Reached a.ballot c
    pub holds : (s : ℕ) (c : BallotNumber) → Holds (w.acceptors n).accepted s c → Holds a.accepted s c
    pub kept : (p : PValue C) → IsIn p a.accepted → IsIn p (asked w.sent)
    pub reached : HasReached a
    -- its answers are true
    pub promises : (to : ℕ) (p : Promise C A) → IsIn (record { to = to; message = P1b p }) sends → Covers w.sent n a p.ballot p.accepted × AreUpTo w.sent p.ballot p.accepted
    pub votes : (to : ℕ) (b : BallotNumber) (s : ℕ) → IsIn (record { to = to; message = P2b (vote_of b s) }) sends →
        Holds a.accepted s b × ((c : BallotNumber) → Reached a.ballot c → AtMost c b)
    -- the leader asks for its proposals, which rest on a majority
    pub asks : (p : PValue C) → Asks sends p → IsAsked l p
    pub keeps : (p : PValue C) → Past (w.leaders n) p → Past l p
    pub orderly : IsOrderly n w.size l
    pub backed : IsLeaderBacked w l

  backed_active : (size : ℕ) (acceptors : ℕ → AcceptorState C) (sent : List (Envelope C A)) (b : BallotNumber) (proposals : List (ℕ × C)) (phase : Phase C) →
      phase_is_active phase ≡ true → IsBacked size acceptors sent b proposals phase → (ps : List (PValue C)) × Backs size acceptors sent b ps × AreChoices ps proposals
  backed_active size acceptors sent b proposals Passive e h = absurd (true≢false (sym e))
  backed_active size acceptors sent b proposals (Scouting scout) e h = absurd (true≢false (sym e))
  backed_active size acceptors sent b proposals (Active ks) e h = h
  backed_active size acceptors sent b proposals Over e h = absurd (true≢false (sym e))

  pub step : (w : Roles C A) → Sound w → (n : ℕ) (a : AcceptorState C) (l : LeaderState C) (sends : List (Outgoing C A)) → Steps w n a l sends → Sound (moved w n a l sends)
  step w i n a l sends st =
      record {
        kept_asked = λ k p h. asked_more w.sent more p (put_each (λ k (y : AcceptorState C). IsIn p y.accepted → IsIn p (asked w.sent)) w.acceptors n a (st.kept p) (λ m ne. i.kept_asked m p) k h);
        kept_reached = put_each (λ k (y : AcceptorState C). HasReached y) w.acceptors n a st.reached (λ m ne. i.kept_reached m);
        promised = λ k to p h.
            ⊎_elim
            (λ old. let x = i.promised k to p old in (covers_on w.sent more k (w.acceptors k) (acceptors k) p.ballot p.accepted (all k) x.0, up_to_on w.sent more p.ballot p.accepted x.1))
            (λ new.
            let y = in_sent_by n sends _ new in
            let x = st.promises to p y.1 in (
              put_here (λ j (z : AcceptorState C). Covers (w.sent ++ more) j z p.ballot p.accepted) w.acceptors n a (covers_on w.sent more n a a p.ballot p.accepted mine x.0) k y.0,
              up_to_on w.sent more p.ballot p.accepted x.1,
            ))
            (in_either _ w.sent more h);
        voted = λ k b s h.
            ⊎_elim
            (λ old. put_each (λ j (y : AcceptorState C). Holds (w.acceptors j).accepted s b → Holds y.accepted s b) w.acceptors n a (st.holds s b) (λ m ne x. x) k (i.voted k b s (h.0, old)))
            (λ new. let y = in_sent_by n sends _ new in put_here (λ j (z : AcceptorState C). Holds z.accepted s b) w.acceptors n a (st.votes h.0 b s y.1).0 k y.0)
            (in_either _ w.sent more h.1);
        asked_past = λ p h. ⊎_elim (old_past p) (λ new. new_past p (asks_of n sends p new)) (asked_either w.sent more p h);
        asked_once = λ p q h k eb es.
            ⊎_elim
            (λ old. ⊎_elim
            (λ old'. i.asked_once p q old old' eb es)
            (λ new'. sym (clash q p (asks_of n sends q new') old (sym eb) (sym es)))
            (asked_either w.sent more q k))
            (λ new. ⊎_elim
            (λ old'. clash p q (asks_of n sends p new) old' eb es)
            (λ new'. one_command A l p q (st.asks p (asks_of n sends p new)) (st.asks q (asks_of n sends q new')) es)
            (asked_either w.sent more q k))
            (asked_either w.sent more p h);
        asked_backed = λ p h.
            let x : (ps : List (PValue C)) × Backs w.size w.acceptors w.sent p.ballot ps × IsChoice ps p.slot p.command =
            ⊎_elim (λ old. i.asked_backed p old) (λ new. new_backed p (asks_of n sends p new)) (asked_either w.sent more p h) in
            (x.0, backs_on w.size w.acceptors acceptors w.sent more p.ballot x.0 all x.1, x.2);
        orderly = put_each (λ k (y : LeaderState C). IsOrderly k w.size y) w.leaders n l st.orderly (λ m ne. i.orderly m);
        backed =
            put_each (λ k (y : LeaderState C). IsBacked w.size acceptors (w.sent ++ more) y.ballot y.proposals y.phase) w.leaders n l
            (backed_on w.size w.acceptors acceptors w.sent more l.ballot l.proposals l.phase all st.backed)
            (λ m ne. backed_on w.size w.acceptors acceptors w.sent more (w.leaders m).ballot (w.leaders m).proposals (w.leaders m).phase all (i.backed m));
      }
    where
      more : List (Envelope C A)
      more = sent_by n sends

      acceptors : ℕ → AcceptorState C
      acceptors = put w.acceptors n a

      -- a vote of this step
      voting : (k : ℕ) (b : BallotNumber) (s : ℕ) → Voted (w.sent ++ more) k b s → Voted w.sent k b s ⊎ ((n ≡ k) × ((c : BallotNumber) → Reached a.ballot c → AtMost c b))
      voting k b s v =
          ⊎_elim (λ old. inl (v.0, old)) (λ new. let y = in_sent_by n sends _ new in inr (y.0, (st.votes v.0 b s y.1).1)) (in_either _ w.sent more v.1)

      mine : Advances w.sent more n a a
      mine = (λ c h. h, λ b s v. ⊎_elim (λ o. inl o) (λ (x : (n ≡ n) × ((c : BallotNumber) → Reached a.ballot c → AtMost c b)). inr x.1) (voting n b s v))

      all : AllAdvance w.sent more w.acceptors acceptors
      all =
          put_each (λ k (y : AcceptorState C). Advances w.sent more k (w.acceptors k) y) w.acceptors n a (st.rises, mine.1)
          (λ m ne. (λ c h. h, λ b s v. ⊎_elim (λ o. inl o) (λ (x : (n ≡ m) × ((c : BallotNumber) → Reached a.ballot c → AtMost c b)). absurd (ne (sym x.0))) (voting m b s v)))

      old_past : (p : PValue C) → IsIn p (asked w.sent) → Past (put w.leaders n l p.ballot.leader) p
      old_past p h =
          put_each (λ k (y : LeaderState C). p.ballot.leader ≡ k → Past y p) w.leaders n l
          (λ e. st.keeps p (subst (λ j. Past (w.leaders j) p) e (i.asked_past p h))) (λ m ne e. subst (λ j. Past (w.leaders j) p) e (i.asked_past p h))
          p.ballot.leader refl

      -- what this step asks for is of its own ballot
      by_me : (p : PValue C) → Asks sends p → p.ballot.leader ≡ n
      by_me p h = ap (λ (b : BallotNumber). b.leader) (st.asks p h).0 ∙ st.orderly.own_ballot

      new_past : (p : PValue C) → Asks sends p → Past (put w.leaders n l p.ballot.leader) p
      new_past p h = put_here (λ k (y : LeaderState C). Past y p) w.leaders n l (asked_stands l p (st.asks p h)) p.ballot.leader (sym (by_me p h))

      -- what it asks for now and what was asked for before
      clash : (p q : PValue C) → Asks sends p → IsIn q (asked w.sent) → p.ballot ≡ q.ballot → p.slot ≡ q.slot → p.command ≡ q.command
      clash p q h k eb es =
          let now : IsAsked l p = st.asks p h in
          let past : Past l q = st.keeps q (subst (λ j. Past (w.leaders j) q) (ap (λ (b : BallotNumber). b.leader) (sym eb) ∙ by_me p h) (i.asked_past q k)) in
          let its : q.ballot ≡ l.ballot = sym eb ∙ now.0 in
          one_command A l p q now (its, now.1, stands_active l q past its now.1) es

      new_backed : (p : PValue C) → Asks sends p → (ps : List (PValue C)) × Backs w.size w.acceptors w.sent p.ballot ps × IsChoice ps p.slot p.command
      new_backed p h =
          let now : IsAsked l p = st.asks p h in
          let x = backed_active w.size w.acceptors w.sent l.ballot l.proposals l.phase now.1 st.backed in
          (x.0, subst (λ b. Backs w.size w.acceptors w.sent b x.0) (sym now.0) x.1, x.2.0 p.slot p.command now.2)
