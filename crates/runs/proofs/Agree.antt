-- What is chosen binds every higher ballot, so at most one command is chosen in a slot.
use Rattle.std.proofs.Common.{◌≡◌, ℕ, refl, sym, ◌∙◌, subst, ⊎_elim}
use Rattle.ballot.specs.Ballots.{BallotNumber, Below}
use Rattle.ballot.specs.Lists.{IsIn}
use Rattle.ballot.specs.declared.pvalue.PValue.{PValue}
use Rattle.ballot.proofs.Count.{majorities_share}
use Rattle.ballot.proofs.Order.{most_or_below, most_trans, by_ballots, three}
use Rattle.runs.specs.Chosen.{asked, voted, IsChosenBy, IsChosen}
use Rattle.runs.proofs.Chosen.{voted_sent}
use Rattle.runs.proofs.Invariant.{Roles, Sound}

module _ {C A : Type 0} where
  -- with this ballot, above that of p, nothing but p's command is asked for in p's slot
  abbrev Binds : Roles C A → PValue C → BallotNumber → Type 0
  Binds w p b = (q : PValue C) → q.ballot ≡ b → IsIn q (asked w.sent) → Below p.ballot b → q.slot ≡ p.slot → q.command ≡ p.command

  -- the majority that chose p shares a node with the one that backs q. That node voted for p, so it told of p's slot, and the choice is
  -- something of at least p's ballot, which was asked for below q's
  binds : (w : Roles C A) → Sound w → (p : PValue C) → IsChosenBy w.size w.sent p → (b : BallotNumber) → Binds w p b
  binds w i p chosen = by_ballots (Binds w p) step
    where
      step : (b : BallotNumber) → ((a : BallotNumber) → Below a b → Binds w p a) → Binds w p b
      step b less q e asks lower at =
          let back = i.asked_backed q asks in
          let shared = majorities_share w.size (voted w.sent p.ballot p.slot) back.1.0 chosen.1 back.1.1 in
          let n : ℕ = shared.0 in
          let vote = voted_sent w.sent p.ballot p.slot n shared.2 in
          let lower' : Below p.ballot q.ballot = subst (Below p.ballot) (sym e) lower in
          let told = (back.1.2 n shared.3).1 p.ballot p.slot vote lower' in
          let high = back.2 told.0 told.1 (told.2 ∙ sym at) in
          let r : PValue C = high.0 in
          let known = back.1.3 r high.1 in
          ⊎_elim
          (λ (same : p.ballot ≡ r.ballot). sym high.3 ∙ i.asked_once r p known.0 chosen.0 (sym same) (high.2 ∙ at))
          (λ (above : Below p.ballot r.ballot). sym high.3 ∙ less r.ballot (subst (Below r.ballot) e known.1) r refl known.0 above (high.2 ∙ at))
          (most_or_below p.ballot r.ballot (most_trans p.ballot told.0.ballot r.ballot told.3 high.4))

  pub agree : (w : Roles C A) → Sound w → (s : ℕ) (c d : C) → IsChosen w.size w.sent s c → IsChosen w.size w.sent s d → c ≡ d
  agree w i s c d x y =
      let p : PValue C = record { ballot = x.0; slot = s; command = c } in
      let q : PValue C = record { ballot = y.0; slot = s; command = d } in
      ⊎_elim
      (λ (e : x.0 ≡ y.0). i.asked_once p q x.1.0 y.1.0 e refl)
      (λ o. ⊎_elim
      (λ (l : Below x.0 y.0). sym (binds w i p x.1 y.0 q refl y.1.0 l refl))
      (λ (g : Below y.0 x.0). binds w i q y.1 x.0 p refl x.1.0 g refl)
      o)
      (three x.0 y.0)
