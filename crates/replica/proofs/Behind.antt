-- A replica that was told less is behind one that was told more.
use Rattle.std.proofs.Common.{◌≡◌, ℕ, zero, suc, ◌+◌, ◌-◌, ◌<◌, ◌≤◌, true, List, [], ◌∷◌, ◌++◌, Option, Some, None, is_some, ap, ◌∙◌, sym, arith, ⊎_elim, cond, append_assoc}
use Rattle.std.proofs.lemmas.List.{append-nil}
use Rattle.std.proofs.lemmas.Bool.{true≢false, cases_lt}
use Rattle.replica.specs.Replicas.{Rules, ReplicaState, is_decided, first_slots, has_identity, once, IsFrontOf}
use Rattle.ballot.specs.Slots.{at_slot}
use Rattle.replica.proofs.Parts.{in_slot}
use Rattle.replica.specs.Calls.{IsBehind}
use Rattle.replica.proofs.Slots.{first_slots-same}
use Rattle.replica.proofs.Front.{once_push}

-- a list and what comes after it
record IsLonger {X : Type 0} (short long : List X) : Type 0 where
  pub more : List X
  pub is : long ≡ short ++ more

module _ {C I R M : Type 0} (rules : Rules C I R M) where
  -- one slot more
  longer_once : (short : List (ℕ × C)) (ps : List (ℕ × C)) (s : ℕ) (o : Option C) → IsLonger short (once rules [] ps) → IsLonger short (once rules [] (ps ++ in_slot s o))
  longer_once short ps s None h = record { more = h.more; is = ap (once rules []) (append-nil ps) ∙ h.is }
  longer_once short ps s (Some c) h =
      let last : List (ℕ × C) = cond (has_identity rules (rules.identity c) ([] ++ once rules [] ps)) [] ((s, c) ∷ []) in
      record {
        more = h.more ++ last;
        is = once_push rules [] ps (s, c) ∙ (ap (λ (xs : List (ℕ × C)). xs ++ last) h.is ∙ append_assoc short h.more last);
      }

  -- and any number of slots more
  longer : (n k m : ℕ) (es : List (ℕ × C)) → m ≡ k + n → IsLonger (once rules [] (first_slots n es)) (once rules [] (first_slots m es))
  longer n zero m es e =
      let same : m ≡ n = omega (arith, e) in
      record { more = []; is = ap (λ k. once rules [] (first_slots k es)) same ∙ sym (append-nil (once rules [] (first_slots n es))) }
  longer n (suc k) zero es e = absurd (omega (arith, e))
  longer n (suc k) (suc m) es e =
      longer_once (once rules [] (first_slots n es)) (first_slots m es) (suc m) (at_slot (suc m) es) (longer n k m es (omega (arith, e)))

  pub is_behind : (ours theirs : List (ℕ × C)) (a b : ReplicaState C I R M) → ((s : ℕ) → is_decided s ours ≡ true → at_slot s theirs ≡ at_slot s ours) → IsFrontOf rules ours a → IsFrontOf rules theirs b → IsBehind a b
  is_behind ours theirs a b known p q =
      let low : a.slot_out ≤ b.slot_out =
      ⊎_elim
      (λ (l : b.slot_out < a.slot_out). absurd (let there = p.gapless b.slot_out q.begins l in true≢false (sym there ∙ (ap (λ (o : Option C). is_some o) (sym (known b.slot_out there)) ∙ q.ends))))
      (λ (l : a.slot_out ≤ b.slot_out). l)
      (cases_lt b.slot_out a.slot_out) in
      let before : first_slots (a.slot_out - 1) ours ≡ first_slots (a.slot_out - 1) theirs =
      first_slots-same (a.slot_out - 1) ours theirs (λ s from to. sym (known s (p.gapless s from (omega (arith, p.begins, to))))) in
      let on = longer (a.slot_out - 1) (b.slot_out - a.slot_out) (b.slot_out - 1) theirs (omega (arith, low, p.begins)) in
      record {
        slot_out = low;
        more = on.more;
        performed = q.performed ∙ (on.is ∙ ap (λ (xs : List (ℕ × C)). xs ++ on.more) (sym (p.performed ∙ ap (once rules []) before)));
      }
