-- Adding an input takes no other's condition away.
use Rattle.std.proofs.Common.{◌≡◌, ℕ, suc, ◌≤◌, List, Bool, true, false, Option, Some, None, refl, sym, subst, arith}
use Rattle.std.specs.Prelude.{◌==◌, ◌&&◌}
use Rattle.std.specs.List.{list_any}
use Rattle.std.proofs.lemmas.Bool.{and_parts, and_from, ne_eqb}
use Rattle.audit.specs.Case.{Case, next, state_at, sent_at, asked, earlier_among}
use Rattle.audit.specs.Placing.{put, was_sent, is_answered, all_answered, message_there, turn_there, is_met, can_place}
use Rattle.audit.specs.Laws.{Laws}
use Rattle.audit.proofs.Basics.{any_back, any_in, all_in, all_from, put_each, sent_more, answered_more, IsBelow}

module _ {S I E K O L : Type 0} (a : Case S I E K O L) (laws : Laws a) where
  pub sent_stays : (p q : ℕ → ℕ) → IsBelow p q → (e : E) → was_sent a p e ≡ true → was_sent a q e ≡ true
  sent_stays p q below e h =
      let n = any_back (λ k. list_any (λ e'. a.same_message e' e) (sent_at a k (p k))) a.nodes h in
      let m = any_back (λ e'. a.same_message e' e) (sent_at a n.0 (p n.0)) n.2 in
      any_in (λ k. list_any (λ e'. a.same_message e' e) (sent_at a k (q k))) a.nodes n.0 n.1
      (any_in (λ e'. a.same_message e' e) (sent_at a n.0 (q n.0)) m.0 (sent_more a m.0 n.0 (p n.0) (q n.0) (below n.0) m.1) m.2)

  message_stays : (p q : ℕ → ℕ) → IsBelow p q → (n : ℕ) (o : Option E) → message_there a p n o ≡ true → message_there a q n o ≡ true
  message_stays p q below n None h = refl
  message_stays p q below n (Some e) h =
      let b = and_parts (a.to e == n) (was_sent a p e) h in
      and_from (a.to e == n) (was_sent a q e) b.0 (sent_stays p q below e b.1)

  all_stay : (p q : ℕ → ℕ) → IsBelow p q → (u : Option (List K)) → all_answered a p u ≡ true → all_answered a q u ≡ true
  all_stay p q below None h = h
  all_stay p q below (Some ks) h = all_from (λ k. is_answered a q k) ks (λ k t. answered_more a laws p q below k (all_in (λ z. is_answered a p z) ks k h t))

  turn_stays : (p q : ℕ → ℕ) → IsBelow p q → (u : Option K) → turn_there a p u ≡ true → turn_there a q u ≡ true
  turn_stays p q below None h = refl
  turn_stays p q below (Some k) h = all_stay p q below (earlier_among a k a.scripts) h

  -- what can be placed can still be placed in any larger placing that has as much of its log
  pub stays : (p q : ℕ → ℕ) → IsBelow p q → (n : ℕ) → q n ≡ p n → can_place a p n ≡ true → can_place a q n ≡ true
  stays p q below n same =
      λ h. subst (λ k. is_met_at k (next a n k) ≡ true) (sym same) (go (next a n (p n)) h)
    where
      is_met_at : ℕ → Option I → Bool
      is_met_at k None = false
      is_met_at k (Some x) = a.runs (state_at a n k) && (message_there a q n (a.brought x) && turn_there a q (asked a (state_at a n k) x))

      go : (o : Option I) → is_met a p n o ≡ true → is_met_at (p n) o ≡ true
      go None h = h
      go (Some x) h =
          let b = and_parts _ _ h in
          let c = and_parts _ _ b.1 in
          and_from _ _ b.0 (and_from _ _ (message_stays p q below n (a.brought x) c.0) (turn_stays p q below (asked a (state_at a n (p n)) x) c.1))

  pub stays_one : (p : ℕ → ℕ) (m n : ℕ) → (m ≡ n → ⊥) → can_place a p m ≡ true → can_place a (put p n (suc (p n))) m ≡ true
  stays_one p m n ne h =
      stays p (put p n (suc (p n))) (put_each (λ k v. p k ≤ v) p n (suc (p n)) (omega arith) (λ k. omega arith)) m (rw (ne_eqb m n ne) refl) h
