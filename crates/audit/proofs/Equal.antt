-- The tests of equality hold of equal values alone.
use Rattle.std.proofs.Common.{◌≡◌, true, List, refl, ap, sym}
use Rattle.std.specs.Bool.{Decides}
use Rattle.std.specs.Str.{bytes_eq}
use Rattle.std.proofs.lemmas.Bool.{and_parts, true≢false}
use Rattle.std.proofs.lemmas.Bool.Decides.{Decides-eqb, Decides-and, Decides-like}
use Rattle.std.proofs.lemmas.Slice.Eq.{slice_eq-Decides, bytes_eq-Decides}
use Rattle.ballot.specs.Ballots.{BallotNumber, same_ballot}
use Rattle.ballot.specs.PValues.{same_pvalue}
use Rattle.ballot.specs.declared.message.Envelope.{Envelope}
use Rattle.ballot.specs.declared.message.Message.{Message}
use Rattle.ballot.specs.declared.message.Message.TheVariants.{Propose, P1a, P1b, P2a, P2b, Decision, Ask}
use Rattle.ballot.specs.declared.message.Promise.{Promise}
use Rattle.ballot.specs.declared.message.Vote.{Vote}
use Rattle.ballot.specs.declared.pvalue.PValue.{PValue}
use Rattle.maildrop.specs.Equality.{command_decides, op_decides}
use Rattle.maildrop.specs.Same.{same_command, same_op}
use Rattle.maildrop.specs.declared.command.Command.{Command}
use Rattle.node.specs.declared.input.Input.{Input}
use Rattle.node.specs.declared.input.Input.TheVariants.{Submit, Arrive, Tick, Campaign, Crash}
use Rattle.audit.specs.Replays.{same_submit}
use Rattle.audit.specs.Same.{same_pvalues, same_promise, same_vote, same_message, same_envelope}

pub ballot_decides : (a b : BallotNumber) → Decides (same_ballot a b) (a ≡ b)
ballot_decides a b =
    Decides-like (same_ballot a b) (λ e i. record { round = e.0 i; leader = e.1 i }) (λ e. (ap (λ (b : BallotNumber). b.round) e, ap (λ (b : BallotNumber). b.leader) e)) (Decides-and _ _ (Decides-eqb a.round b.round) (Decides-eqb a.leader b.leader))

pub vote_decides : (v w : Vote) → Decides (same_vote v w) (v ≡ w)
vote_decides v w =
    Decides-like (same_vote v w) (λ e i. record { asked = e.0 i; slot = e.1.0 i; ballot = e.1.1 i }) (λ e. (ap (λ (v : Vote). v.asked) e, (ap (λ (v : Vote). v.slot) e, ap (λ (v : Vote). v.ballot) e)))
    (Decides-and _ _ (ballot_decides v.asked w.asked) (Decides-and _ _ (Decides-eqb v.slot w.slot) (ballot_decides v.ballot w.ballot)))

module _ {A : Type 0} where
  pub pvalue_decides : (p q : PValue (Command A)) → Decides (same_pvalue same_command p q) (p ≡ q)
  pvalue_decides p q =
      Decides-like (same_pvalue same_command p q) (λ e i. record { ballot = e.0 i; slot = e.1.0 i; command = e.1.1 i }) (λ e. (ap (λ (p : PValue (Command A)). p.ballot) e, (ap (λ (p : PValue (Command A)). p.slot) e, ap (λ (p : PValue (Command A)). p.command) e)))
      (Decides-and _ _ (ballot_decides p.ballot q.ballot) (Decides-and _ _ (Decides-eqb p.slot q.slot) (command_decides p.command q.command)))

  pub pvalues_decide : (ps qs : List (PValue (Command A))) → Decides (same_pvalues ps qs) (ps ≡ qs)
  pvalues_decide ps qs = slice_eq-Decides pvalue_decides ps qs (same_pvalues ps qs) refl

  pub promise_decides : (p q : Promise (Command A) A) → Decides (same_promise p q) (p ≡ q)
  promise_decides p q =
      Decides-like (same_promise p q) (λ e i. record { asked = e.0 i; ballot = e.1.0 i; accepted = e.1.1 i }) (λ e. (ap (λ (p : Promise (Command A) A). p.asked) e, (ap (λ (p : Promise (Command A) A). p.ballot) e, ap (λ (p : Promise (Command A) A). p.accepted) e)))
      (Decides-and _ _ (ballot_decides p.asked q.asked) (Decides-and _ _ (ballot_decides p.ballot q.ballot) (pvalues_decide p.accepted q.accepted)))

  pub message_decides : (m n : Message (Command A) A) → Decides (same_message m n) (m ≡ n)
  message_decides (Propose s c) (Propose t d) =
      Decides-like (same_message {A = A} (Propose s c) (Propose t d)) (λ e i. Propose (e.0 i) (e.1 i)) (λ e. (cc, cc)) (Decides-and _ _ (Decides-eqb s t) (command_decides c d))
  message_decides (P1a b) (P1a c) = Decides-like (same_message {A = A} (P1a b) (P1a c)) (λ e. ap P1a e) (λ e. cc) (ballot_decides b c)
  message_decides (P1b p) (P1b q) = Decides-like (same_message {A = A} (P1b p) (P1b q)) (λ e. ap P1b e) (λ e. cc) (promise_decides p q)
  message_decides (P2a p) (P2a q) = Decides-like (same_message {A = A} (P2a p) (P2a q)) (λ e. ap P2a e) (λ e. cc) (pvalue_decides p q)
  message_decides (P2b v) (P2b w) = Decides-like (same_message {A = A} (P2b v) (P2b w)) (λ e. ap P2b e) (λ e. cc) (vote_decides v w)
  message_decides (Decision s c) (Decision t d) =
      Decides-like (same_message {A = A} (Decision s c) (Decision t d)) (λ e i. Decision (e.0 i) (e.1 i)) (λ e. (cc, cc)) (Decides-and _ _ (Decides-eqb s t) (command_decides c d))
  message_decides (Ask s) (Ask t) = Decides-like (same_message {A = A} (Ask s) (Ask t)) (λ e. ap Ask e) (λ e. cc) (Decides-eqb s t)
  message_decides m n = (λ h. absurd (cc), λ e. absurd (cc))

  pub envelope_decides : (e f : Envelope (Command A) A) → Decides (same_envelope e f) (e ≡ f)
  envelope_decides e f =
      Decides-like (same_envelope e f) (λ h i. record { from = h.0 i; to = h.1.0 i; message = h.1.1 i }) (λ h. (ap (λ (e : Envelope (Command A) A). e.from) h, (ap (λ (e : Envelope (Command A) A). e.to) h, ap (λ (e : Envelope (Command A) A). e.message) h)))
      (Decides-and _ _ (Decides-eqb e.from f.from) (Decides-and _ _ (Decides-eqb e.to f.to) (message_decides e.message f.message)))

  pub submit_same : (x y : Input A) → same_submit x y ≡ true → x ≡ y
  submit_same (Submit name op) (Submit other_name other) h =
      let p = and_parts (bytes_eq name other_name) (same_op op other) h in
      λ i. Submit ((bytes_eq-Decides name other_name).0 p.0 i) ((op_decides op other).0 p.1 i)
  submit_same (Submit name op) (Arrive e) h = absurd (true≢false (sym h))
  submit_same (Submit name op) Tick h = absurd (true≢false (sym h))
  submit_same (Submit name op) Campaign h = absurd (true≢false (sym h))
  submit_same (Submit name op) Crash h = absurd (true≢false (sym h))
  submit_same (Arrive e) y h = absurd (true≢false (sym h))
  submit_same Tick y h = absurd (true≢false (sym h))
  submit_same Campaign y h = absurd (true≢false (sym h))
  submit_same Crash y h = absurd (true≢false (sym h))
