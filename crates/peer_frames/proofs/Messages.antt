-- Messages are read as they are written.
use Rattle.std.proofs.Common.{◌≡◌, ℕ, ◌^◌, ◌<◌, List, ◌++◌, length, Ok, refl, subst}
use Rattle.std.specs.List.{AllByRecursion}
use Rattle.ballot.specs.Ballots.{BallotNumber}
use Rattle.ballot.specs.declared.message.Message.{Message}
use Rattle.ballot.specs.declared.message.Message.TheVariants.{Propose, P1a, P1b, P2a, P2b, Decision, Ask}
use Rattle.ballot.specs.declared.pvalue.PValue.{PValue}
use Rattle.maildrop.specs.declared.command.Command.{Command}
use Rattle.peer_frames.specs.declared.version.Version.{Version}
use Rattle.peer_frames.specs.declared.kind.Kind.{Kind}
use Rattle.peer_frames.specs.declared.kind.Kind.TheVariants as kind
use Rattle.peer_frames.specs.Frames.{counted, kind_of_message, message_bytes, pvalue_bytes}
use Rattle.peer_frames.specs.Reading.{slot_at, ballot_at, pvalue_at, pvalues_at, promise_at, vote_at, message_at}
use Rattle.peer_frames.specs.Fitting.{FitsPValue, FitsMessage}
use Rattle.peer_frames.proofs.Steps.{bind_ok, ok_is, gave}
use Rattle.peer_frames.proofs.Formats.{IsBytes, Takes, Agrees, both_take, both_again, three_take, three_again, counted_agrees}
use Rattle.peer_frames.proofs.Fields.{slot_agrees, ballot_agrees}
use Rattle.peer_frames.proofs.Commands.{command_agrees}

abbrev M : Type 0 → Type 0
M A = Message (Command A) A

module _ {A : Type 0} where
  abbrev make_pvalue : BallotNumber → ℕ → Command A → PValue (Command A)
  make_pvalue ballot slot command = record { ballot = ballot; slot = slot; command = command }

  pvalue_takes : (v : Version) (bytes : List ℕ) (p : PValue (Command A)) (rest : List ℕ) → IsBytes bytes → pvalue_at v bytes ≡ Ok (p, rest) → Takes bytes (pvalue_bytes v p) rest × FitsPValue v p
  unfolding pvalue_at
  pvalue_takes v bytes p rest fits e =
      let t = three_take ballot_agrees slot_agrees (command_agrees v) make_pvalue bytes p rest fits e in
      subst (λ (p : PValue (Command A)). Takes bytes (pvalue_bytes v p) rest × FitsPValue v p) t.made (t.taken, record { ballot = t.fits; slot = t.fits2; command = t.fits3 })

  pvalue_again : (v : Version) (p : PValue (Command A)) (rest : List ℕ) → FitsPValue v p → pvalue_at v (pvalue_bytes v p ++ rest) ≡ Ok (p, rest)
  unfolding pvalue_at
  pvalue_again v p rest h = three_again ballot_agrees slot_agrees (command_agrees v) make_pvalue p.ballot p.slot p.command rest h.ballot h.slot h.command

  pvalue_agrees : (v : Version) → Agrees (pvalue_at {A = A} v) (pvalue_bytes v) (FitsPValue v)
  pvalue_agrees v = record { takes = pvalue_takes v; again = pvalue_again v }

  abbrev FitAll : Version → List (PValue (Command A)) → Type 0
  FitAll v ps = (length ps < 2 ^ 32) × AllByRecursion (FitsPValue v) ps

  pvalues_agrees : (v : Version) → Agrees (pvalues_at {A = A} v) (counted (pvalue_bytes v)) (FitAll v)
  unfolding pvalues_at
  pvalues_agrees v = counted_agrees (pvalue_agrees v)

  abbrev make_promise : BallotNumber → BallotNumber → List (PValue (Command A)) → M A
  make_promise asked ballot accepted = P1b (record { asked = asked; ballot = ballot; accepted = accepted })

  abbrev make_vote : BallotNumber → ℕ → BallotNumber → M A
  make_vote asked slot ballot = P2b (record { asked = asked; slot = slot; ballot = ballot })

  abbrev make_propose : ℕ → Command A → M A
  make_propose slot command = Propose slot command

  abbrev make_decision : ℕ → Command A → M A
  make_decision slot command = Decision slot command

  abbrev Taken : Version → Kind → List ℕ → M A → List ℕ → Type 0
  Taken v k bytes m rest = Takes bytes (message_bytes v m) rest × (kind_of_message m ≡ k) × FitsMessage v m

  pub message_takes : (v : Version) (k : Kind) (bytes : List ℕ) (m : M A) (rest : List ℕ) → IsBytes bytes → message_at v k bytes ≡ Ok (m, rest) → Taken v k bytes m rest
  unfolding message_at promise_at vote_at
  message_takes v kind.Propose bytes m rest fits e =
      let t = both_take slot_agrees (command_agrees v) make_propose bytes m rest fits e in
      subst (λ (m : M A). Taken v kind.Propose bytes m rest) t.made (t.taken, refl, (t.fits, t.fits2))
  message_takes v kind.P1a bytes m rest fits e =
      let t = bind_ok (ballot_at bytes) (λ b. gave (P1a b.0) b.1) (m, rest) e in
      let b = ballot_agrees.takes bytes t.0.0 t.0.1 fits t.1 in
      subst (λ (p : M A × List ℕ). Taken v kind.P1a bytes p.0 p.1) (ok_is (P1a t.0.0, t.0.1) (m, rest) t.2) (b.0, refl, b.1)
  message_takes v kind.P1b bytes m rest fits e =
      let t = three_take ballot_agrees ballot_agrees (pvalues_agrees v) make_promise bytes m rest fits e in
      subst (λ (m : M A). Taken v kind.P1b bytes m rest) t.made (t.taken, refl, record { asked = t.fits; ballot = t.fits2; count = t.fits3.0; accepted = t.fits3.1 })
  message_takes v kind.P2a bytes m rest fits e =
      let t = bind_ok (pvalue_at v bytes) (λ p. gave (P2a p.0) p.1) (m, rest) e in
      let p = pvalue_takes v bytes t.0.0 t.0.1 fits t.1 in
      subst (λ (p : M A × List ℕ). Taken v kind.P2a bytes p.0 p.1) (ok_is (P2a t.0.0, t.0.1) (m, rest) t.2) (p.0, refl, p.1)
  message_takes v kind.P2b bytes m rest fits e =
      let t = three_take ballot_agrees slot_agrees ballot_agrees make_vote bytes m rest fits e in
      subst (λ (m : M A). Taken v kind.P2b bytes m rest) t.made (t.taken, refl, record { asked = t.fits; slot = t.fits2; ballot = t.fits3 })
  message_takes v kind.Decision bytes m rest fits e =
      let t = both_take slot_agrees (command_agrees v) make_decision bytes m rest fits e in
      subst (λ (m : M A). Taken v kind.Decision bytes m rest) t.made (t.taken, refl, (t.fits, t.fits2))
  message_takes v kind.Ask bytes m rest fits e =
      let t = bind_ok (slot_at bytes) (λ s. gave (Ask s.0) s.1) (m, rest) e in
      let s = slot_agrees.takes bytes t.0.0 t.0.1 fits t.1 in
      subst (λ (p : M A × List ℕ). Taken v kind.Ask bytes p.0 p.1) (ok_is (Ask t.0.0, t.0.1) (m, rest) t.2) (s.0, refl, s.1)

  pub message_again : (v : Version) (m : M A) (rest : List ℕ) → FitsMessage v m → message_at v (kind_of_message m) (message_bytes v m ++ rest) ≡ Ok (m, rest)
  unfolding message_at promise_at vote_at
  message_again v (Propose slot c) rest h = both_again slot_agrees (command_agrees v) make_propose slot c rest h.0 h.1
  message_again v (P1a b) rest h = rw (ballot_agrees.again b rest h) refl
  message_again v (P1b promise) rest h = three_again ballot_agrees ballot_agrees (pvalues_agrees v) make_promise promise.asked promise.ballot promise.accepted rest h.asked h.ballot (h.count, h.accepted)
  message_again v (P2a p) rest h = rw (pvalue_again v p rest h) refl
  message_again v (P2b vote) rest h = three_again ballot_agrees slot_agrees ballot_agrees make_vote vote.asked vote.slot vote.ballot rest h.asked h.slot h.ballot
  message_again v (Decision slot c) rest h = both_again slot_agrees (command_agrees v) make_decision slot c rest h.0 h.1
  message_again v (Ask slot) rest h = rw (slot_agrees.again slot rest h) refl
