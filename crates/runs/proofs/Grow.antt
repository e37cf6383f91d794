-- What stays of the invariant's parts when acceptors go on and messages are sent.
use Rattle.std.proofs.Common.{◌≡◌, ◌≢◌, ◌⊎◌, ℕ, List, ◌++◌, refl, sym, subst, ⊎_elim}
use Rattle.std.proofs.lemmas.Bool.{eq-eqb, cases_eq, ne_eqb}
use Rattle.ballot.specs.Ballots.{BallotNumber, AtMost}
use Rattle.ballot.specs.Lists.{IsIn}
use Rattle.ballot.specs.declared.pvalue.PValue.{PValue}
use Rattle.ballot.specs.declared.message.Envelope.{Envelope}
use Rattle.ballot.proofs.Order.{below_not_most}
use Rattle.acceptor.specs.Acceptors.{AcceptorState, Reached}
use Rattle.leader.specs.Leaders.{Phase, Passive, Scouting, Active, Over}
use Rattle.runs.proofs.Chosen.{Voted, asked_more}
use Rattle.runs.proofs.Invariant.{put, Covers, AreBelow, AreUpTo, Backs, IsBacked}

pub put_same : {X : Type 0} (f : ℕ → X) (n : ℕ) (x : X) → put f n x n ≡ x
put_same f n x = rw (eq-eqb n n refl) refl

pub put_each : {X : Type 0} (P : ℕ → X → Type 0) (f : ℕ → X) (n : ℕ) (x : X) → P n x → ((m : ℕ) → m ≢ n → P m (f m)) → (m : ℕ) → P m (put f n x m)
put_each P f n x here there m =
    ⊎_elim
    (λ (e : m ≡ n). subst (λ k. P k (put f n x k)) (sym e) (subst (P n) (sym (put_same f n x)) here))
    (λ (ne : m ≢ n). rw (ne_eqb m n ne) (there m ne))
    (cases_eq m n)

-- what holds of what was put at n
pub put_here : {X : Type 0} (P : ℕ → X → Type 0) (f : ℕ → X) (n : ℕ) (x : X) → P n x → (m : ℕ) → n ≡ m → P m (put f n x m)
put_here P f n x here m e = subst (λ k. P k (put f n x k)) e (subst (P n) (sym (put_same f n x)) here)

module _ {C A : Type 0} where
  -- the acceptor's ballot doesn't fall, and a new vote of its node isn't below any ballot that it has reached
  abbrev pub Advances : List (Envelope C A) → List (Envelope C A) → ℕ → AcceptorState C → AcceptorState C → Type 0
  Advances sent more n old new =
      ((c : BallotNumber) → Reached old.ballot c → Reached new.ballot c)
      × ((b : BallotNumber) (s : ℕ) → Voted (sent ++ more) n b s → Voted sent n b s ⊎ ((c : BallotNumber) → Reached new.ballot c → AtMost c b))

  abbrev pub AllAdvance : List (Envelope C A) → List (Envelope C A) → (ℕ → AcceptorState C) → (ℕ → AcceptorState C) → Type 0
  AllAdvance sent more old new = (n : ℕ) → Advances sent more n (old n) (new n)

  pub covers_on : (sent more : List (Envelope C A)) (n : ℕ) (old new : AcceptorState C) (b : BallotNumber) (ps : List (PValue C)) → Advances sent more n old new →
      Covers sent n old b ps → Covers (sent ++ more) n new b ps
  covers_on sent more n old new b ps adv h = (
    adv.0 b h.0,
    λ c s v lower. ⊎_elim
        (λ o. h.1 c s o lower)
        (λ (f : (d : BallotNumber) → Reached new.ballot d → AtMost d c). absurd (below_not_most c b lower (f b (adv.0 b h.0))))
        (adv.1 c s v),
  )

  pub covers_more : (sent : List (Envelope C A)) (n : ℕ) (a : AcceptorState C) (b : BallotNumber) (ps qs : List (PValue C)) → ((p : PValue C) → IsIn p ps → IsIn p qs) →
      Covers sent n a b ps → Covers sent n a b qs
  covers_more sent n a b ps qs sub h = (h.0, λ c s v lower. let x = h.1 c s v lower in (x.0, sub x.0 x.1, x.2, x.3))

  pub below_on : (sent more : List (Envelope C A)) (b : BallotNumber) (ps : List (PValue C)) → AreBelow sent b ps → AreBelow (sent ++ more) b ps
  below_on sent more b ps h p i = (asked_more sent more p (h p i).0, (h p i).1)

  pub up_to_on : (sent more : List (Envelope C A)) (b : BallotNumber) (ps : List (PValue C)) → AreUpTo sent b ps → AreUpTo (sent ++ more) b ps
  up_to_on sent more b ps h p i = (asked_more sent more p (h p i).0, (h p i).1)

  pub backs_on : (size : ℕ) (old new : ℕ → AcceptorState C) (sent more : List (Envelope C A)) (b : BallotNumber) (ps : List (PValue C)) → AllAdvance sent more old new →
      Backs size old sent b ps → Backs size new (sent ++ more) b ps
  backs_on size old new sent more b ps adv h = (h.0, h.1, λ n t. covers_on sent more n (old n) (new n) b ps (adv n) (h.2 n t), below_on sent more b ps h.3)

  pub backed_on : (size : ℕ) (old new : ℕ → AcceptorState C) (sent more : List (Envelope C A)) (b : BallotNumber) (proposals : List (ℕ × C)) (phase : Phase C) →
      AllAdvance sent more old new → IsBacked size old sent b proposals phase → IsBacked size new (sent ++ more) b proposals phase
  backed_on size old new sent more b proposals Passive adv h = tt
  backed_on size old new sent more b proposals (Scouting scout) adv h =
      λ s e. let x = h s e in (λ n t. covers_on sent more n (old n) (new n) b s.pvalues (adv n) (x.0 n t), below_on sent more b s.pvalues x.1)
  backed_on size old new sent more b proposals (Active ks) adv h = (h.0, backs_on size old new sent more b h.0 adv h.1, h.2)
  backed_on size old new sent more b proposals Over adv h = tt
