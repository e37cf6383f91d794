-- A placing beyond which nothing can be placed holds every other.
use Rattle.std.proofs.Common.{◌≡◌, ℕ, suc, ◌<◌, ◌≤◌, List, [], ◌∷◌, true, sym, subst, ⊎_elim, arith}
use Rattle.std.proofs.lemmas.Bool.{cases_eq, cases_lt}
use Rattle.audit.specs.Case.{Case}
use Rattle.audit.specs.Laws.{Laws}
use Rattle.audit.specs.Placing.{is_stuck, IsPlacing}
use Rattle.audit.proofs.Basics.{IsBelow, put_each}
use Rattle.audit.proofs.Complete.{stuck_at}
use Rattle.audit.proofs.Monotone.{stays}

more : (j k : ℕ) → j ≤ k → (j ≡ k → ⊥) → suc j ≤ k
more j k l ne = ⊎_elim (λ (h : j < k). h) (λ (h : k ≤ j). absurd (ne (both l h))) (cases_lt j k)
  where
    both : j ≤ k → k ≤ j → j ≡ k
    both l h = omega arith

module _ {S I E K O L : Type 0} (a : Case S I E K O L) (laws : Laws a) (stuck : ℕ → ℕ) (none : is_stuck a stuck ≡ true) where
  pub all_within : (order : List ℕ) (placed : ℕ → ℕ) → IsPlacing a order placed → IsBelow placed stuck
  all_within [] placed same = subst (λ p. IsBelow p stuck) (sym same) (λ n. omega arith)
  all_within (n ∷ order) placed (before, steps, can, same) =
      let below = all_within order before steps in
      let one : suc (before n) ≤ stuck n =
      ⊎_elim
      (λ (e : before n ≡ stuck n). absurd (stuck_at a laws stuck none n (stays a laws before stuck below n (sym e) can)))
      (λ (ne : before n ≡ stuck n → ⊥). more (before n) (stuck n) (below n) ne)
      (cases_eq (before n) (stuck n))
      in
      subst (λ p. IsBelow p stuck) (sym same) (put_each (λ m v. v ≤ stuck m) before n (suc (before n)) one below)
