-- Messages to all nodes.
use Rattle.std.proofs.Common.{◌≡◌, ℕ, zero, suc, ◌+◌, ◌<◌, ◌≤◌, [], ◌∷◌, ◌++◌, refl, subst, sym, ap, ⊎_elim, arith}
use Rattle.std.proofs.lemmas.Bool.{cases_order}
use Rattle.ballot.specs.Lists.{IsIn}
use Rattle.ballot.specs.Sends.{to_all}
use Rattle.ballot.specs.declared.message.Message.{Message}
use Rattle.ballot.proofs.Member.{in_left, in_last, in_push}
use Rattle.ballot.specs.declared.outgoing.Outgoing.{Outgoing}

-- a message to all nodes is one to all but the last, and one to the last
pub to_all_last : {C A : Type 0} (n below : ℕ) (m : Message C A) → n ≡ below + 1 → to_all n m ≡ to_all below m ++ record { to = n; message = m } ∷ []
to_all_last {C} {A} n below m e =
    let e' : n ≡ suc below = omega arith in
    subst (λ k. to_all {C = C} {A = A} k m ≡ to_all below m ++ record { to = k; message = m } ∷ []) (sym e') refl

module _ {C A : Type 0} where
  -- all that is sent to all nodes is this message
  pub in_to_all : (n : ℕ) (m : Message C A) (o : Outgoing C A) → IsIn o (to_all n m) → m ≡ o.message
  in_to_all zero m o h = absurd h
  in_to_all (suc n) m o h =
      ⊎_elim (λ l. in_to_all n m o l) (λ r. ap (λ (x : Outgoing C A). x.message) r) (in_push o _ (to_all n m) h)

  -- and each node is sent it
  pub each_in_to_all : (n k : ℕ) (m : Message C A) → 1 ≤ k → k ≤ n → IsIn (record { to = k; message = m }) (to_all n m)
  each_in_to_all zero k m low high = absurd (omega arith)
  each_in_to_all (suc n) k m low high =
      ⊎_elim
      (λ (e : k ≡ suc n). subst (λ j. IsIn (record { to = j; message = m }) (to_all (suc n) m)) (sym e) (in_last (record { to = suc n; message = m }) (to_all n m)))
      (λ o. ⊎_elim
      (λ (l : k < suc n). in_left (record { to = k; message = m }) (to_all n m) _ (each_in_to_all n k m low (omega arith)))
      (λ (l : suc n < k). absurd (omega arith))
      o)
      (cases_order k (suc n))
