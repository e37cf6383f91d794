-- Messages of replicas, which neither ask acceptors nor answer for them.
use Rattle.std.proofs.Common.{◌≡◌, ℕ, List, [], ◌++◌, Some, sym, ap, ◌∙◌, subst, ⊎_elim, append_assoc}
use Rattle.ballot.specs.Lists.{IsIn}
use Rattle.ballot.specs.declared.message.Message.{Message}
use Rattle.ballot.specs.declared.message.Message.TheVariants.{P1b, P2a, P2b, Decision}
use Rattle.ballot.specs.declared.outgoing.Outgoing.{Outgoing}
use Rattle.ballot.proofs.Member.{in_either}
use Rattle.acceptor.specs.Acceptors.{AcceptorState}
use Rattle.leader.specs.Leaders.{LeaderState}
use Rattle.ballot.specs.Slots.{at_slot}
use Rattle.runs.specs.Chosen.{IsChosen}
use Rattle.runs.proofs.Chosen.{sent_by, sent_by-append}
use Rattle.runs.proofs.Invariant.{Roles, Sound}
use Rattle.runs.proofs.Step.{Steps}
use Rattle.runs.proofs.Learn.{Learned, Learns, AreLeaderVoted, all_voted_on, unmoved_voted}

module _ {C A : Type 0} where
  abbrev pub IsPlain : Message C A → Type 0
  IsPlain (P1b p) = ⊥
  IsPlain (P2a p) = ⊥
  IsPlain (P2b v) = ⊥
  IsPlain _ = Unit {0}

  abbrev pub ArePlain : List (Outgoing C A) → Type 0
  ArePlain sends = (o : Outgoing C A) → IsIn o sends → IsPlain o.message

  -- each Decision among them is of a chosen command
  abbrev pub AreChosen : Roles C A → List (Outgoing C A) → Type 0
  AreChosen w sends = (to s : ℕ) (c : C) → IsIn (record { to = to; message = Decision s c }) sends → IsChosen w.size w.sent s c

  -- a node that stays as it is
  pub rests : (w : Roles C A) → Sound w → (n : ℕ) → Steps w n (w.acceptors n) (w.leaders n) []
  rests w i n =
      record {
        rises = λ c h. h;
        holds = λ s c h. h;
        kept = i.kept_asked n;
        reached = i.kept_reached n;
        promises = λ to p h. absurd h;
        votes = λ to b s h. absurd h;
        asks = λ p h. absurd h.1;
        keeps = λ p h. h;
        orderly = i.orderly n;
        backed = i.backed n;
      }

  -- more is sent, which is plain
  pub steps_more : (w : Roles C A) (n : ℕ) (a : AcceptorState C) (l : LeaderState C) (sends more : List (Outgoing C A)) → ArePlain more → Steps w n a l sends → Steps w n a l (sends ++ more)
  steps_more w n a l sends more plain st =
      record {
        rises = st.rises;
        holds = st.holds;
        kept = st.kept;
        reached = st.reached;
        promises = λ to p h. ⊎_elim (λ x. st.promises to p x) (λ y. absurd (plain _ y)) (in_either _ sends more h);
        votes = λ to b s h. ⊎_elim (λ x. st.votes to b s x) (λ y. absurd (plain _ y)) (in_either _ sends more h);
        asks = λ p h. ⊎_elim (λ x. st.asks p (h.0, x)) (λ y. absurd (plain _ y)) (in_either _ sends more h.1);
        keeps = st.keeps;
        orderly = st.orderly;
        backed = st.backed;
      }

  pub learns_more : (w : Roles C A) (n : ℕ) (l : LeaderState C) (sends more : List (Outgoing C A)) (decisions : List (ℕ × C)) → AreChosen w more → Learns w n l sends decisions → Learns w n l (sends ++ more) decisions
  learns_more w n l sends more decisions all h =
      record {
        commanders = subst (λ es. AreLeaderVoted w.size es l) joined (all_voted_on w.size (w.sent ++ sent_by n sends) (sent_by n more) l.ballot l.proposals l.phase h.commanders);
        tells = λ to s c i. ⊎_elim (λ x. h.tells to s c x) (λ y. all to s c y) (in_either _ sends more i);
        knows = h.knows;
      }
    where
      joined : (w.sent ++ sent_by n sends) ++ sent_by n more ≡ w.sent ++ sent_by n (sends ++ more)
      joined = append_assoc w.sent (sent_by n sends) (sent_by n more) ∙ ap (λ es. w.sent ++ es) (sym (sent_by-append n sends more))

  -- a leader that stays as it is, and messages that it hasn't sent
  pub learns_still : (w : Roles C A) (decisions : ℕ → List (ℕ × C)) → Learned w decisions → (n : ℕ) (sends : List (Outgoing C A)) (its : List (ℕ × C)) →
      AreChosen w sends → ((s : ℕ) (c : C) → at_slot s its ≡ Some c → IsChosen w.size w.sent s c) → Learns w n (w.leaders n) sends its
  learns_still w decisions i n sends its tells knows = record { commanders = unmoved_voted w decisions i n sends; tells = tells; knows = knows }
