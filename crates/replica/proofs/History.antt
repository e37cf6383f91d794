-- What holds after any calls.
use Rattle.std.proofs.Common.{◌≡◌, ℕ, ◌+◌, ◌-◌, ◌<◌, ◌≤◌, List, [], ◌∷◌, ◌++◌, length, Bool, true, false, Option, Some, None, is_some, ◌⊎◌, inl, inr, refl, sym, ap, ◌∙◌, ⊎_elim, arith, cond, append_assoc}
use Rattle.std.specs.Map.{lookup}
use Rattle.std.specs.BTreeMap.{insert_entry, is_at}
use Rattle.std.specs.Cmp.{IsTotalOrder}
use Rattle.std.specs.Ordering.{is_eq}
use Rattle.std.proofs.lemmas.List.{append-nil}
use Rattle.std.proofs.lemmas.List.Folds.{list_any-append}
use Rattle.std.proofs.lemmas.Bool.{true≢false, cases_lt}
use Rattle.std.proofs.lemmas.Cmp.{tied_itself}
use Rattle.replica.specs.Replicas.{Rules, ReplicaState, new_replica, first_slots, once, has_identity, performs_slots, proposes, awaiting, requested, learns, without_answer, taken, answer_for, IsFrontOf, IsSettled}
use Rattle.ballot.specs.Slots.{at_slot}
use Rattle.replica.specs.Parts.{with_decided, with_decision, with_request}
use Rattle.replica.proofs.Parts.{held}
use Rattle.replica.specs.Calls.{Call, Requests, Decides, Ticks, Takes, given_by, given, called, all_called, answer_among, awaited_for, answered_with, AreAnswers, Performs, Ascend}
use Rattle.replica.proofs.Slots.{either, at_slot-append, at_slot-kept, first_slots-same}
use Rattle.replica.proofs.Identities.{has_same, lookup_inserted, lookup_removed, ascend_inserted, ascend_removed}
use Rattle.replica.proofs.Front.{Alike, slots_decisions}
use Rattle.replica.proofs.Turns.{slots_alike}
use Rattle.replica.proofs.Settled.{settled_new, decided_settled, requested_settled, taken_settled, front_given}
use Rattle.replica.proofs.Answered.{has_answer, performs_turns, performs_to_alike, still_answers, answers_alike, slots_ascend}

module _ {C I R M : Type 0} (A : Type 0) (rules : Rules C I R M) where
  pub proposes_alike : (r : ReplicaState C I R M) → Alike (proposes {A = A} r).after r
  proposes_alike r = slots_alike A ((r.slot_out + r.window) - r.slot_in) r

  pub decided_decisions : (s : ℕ) (c : C) (r : ReplicaState C I R M) → (learns {A = A} rules s c r).after.decisions ≡ with_decided s c r.decisions
  decided_decisions s c r =
      let n : ℕ = length (with_decided s c r.decisions) in
      (proposes_alike (performs_slots rules n (with_decision s c r))).decisions ∙ slots_decisions rules n (with_decision s c r)

  pub called_settled : (call : Call C I) (r : ReplicaState C I R M) → IsSettled rules r → IsSettled rules (called {A = A} rules call r).after
  called_settled (Requests c) r h = requested_settled rules A c r h
  called_settled (Decides s c) r h = decided_settled rules A s c r h
  called_settled Ticks r h = h
  called_settled (Takes i) r h = taken_settled rules i r h

  taken_decisions : (i : I) (r : ReplicaState C I R M) → (taken rules i r).decisions ≡ r.decisions
  taken_decisions i r =
      go (answer_for rules i r.awaited)
    where
      go : (o : Option R) → (without_answer rules i o r).decisions ≡ r.decisions
      go None = refl
      go (Some a) = refl

  -- the decisions are at each slot the first that was given
  pub called_given : (call : Call C I) (r : ReplicaState C I R M) (before : List (ℕ × C)) → ((s : ℕ) → at_slot s r.decisions ≡ at_slot s before) → (s : ℕ) → at_slot s (called {A = A} rules call r).after.decisions ≡ at_slot s (before ++ given_by call)
  called_given (Requests c) r before h s = ap (at_slot s) (proposes_alike (with_request c (awaiting rules c r))).decisions ∙ (h s ∙ ap (at_slot s) (sym (append-nil before)))
  called_given (Decides t c) r before h s =
      ap (at_slot s) (decided_decisions t c r)
      ∙ (at_slot-kept t s c r.decisions ∙ (ap (λ o. either o (at_slot s ((t, c) ∷ []))) (h s) ∙ sym (at_slot-append s before ((t, c) ∷ []))))
  called_given Ticks r before h s = h s ∙ ap (at_slot s) (sym (append-nil before))
  called_given (Takes i) r before h s = ap (at_slot s) (taken_decisions i r) ∙ (h s ∙ ap (at_slot s) (sym (append-nil before)))

  pub all_settled : (calls : List (Call C I)) (r : ReplicaState C I R M) → IsSettled rules r → IsSettled rules (all_called A rules calls r)
  all_settled [] r h = h
  all_settled (call ∷ calls) r h = all_settled calls (called {A = A} rules call r).after (called_settled call r h)

  pub all_given : (calls : List (Call C I)) (r : ReplicaState C I R M) (before : List (ℕ × C)) → ((s : ℕ) → at_slot s r.decisions ≡ at_slot s before) → (s : ℕ) → at_slot s (all_called A rules calls r).decisions ≡ at_slot s (before ++ given calls)
  all_given [] r before h s = h s ∙ ap (at_slot s) (sym (append-nil before))
  all_given (call ∷ calls) r before h s =
      all_given calls (called {A = A} rules call r).after (before ++ given_by call) (called_given call r before h) s ∙ ap (at_slot s) (append_assoc before (given_by call) (given calls))

  pub front_of_given : (me size window : ℕ) (machine : M) (calls : List (Call C I)) → IsFrontOf rules (given calls) (all_called A rules calls (new_replica me size window machine))
  front_of_given me size window machine calls =
      let r : ReplicaState C I R M = all_called A rules calls (new_replica me size window machine) in
      front_given rules (given calls) r (all_given calls (new_replica me size window machine) [] (λ s. refl)) (all_settled calls (new_replica me size window machine) (settled_new rules me size window machine)).front

-- two fronts of the same decisions
module _ {C I R M : Type 0} (rules : Rules C I R M) where
  no_further : (gs hs : List (ℕ × C)) (a b : ReplicaState C I R M) → ((s : ℕ) → at_slot s gs ≡ at_slot s hs) → IsFrontOf rules gs a → IsFrontOf rules hs b → b.slot_out ≤ a.slot_out
  no_further gs hs a b same p q =
      ⊎_elim
      (λ (l : a.slot_out < b.slot_out). absurd (true≢false (sym (q.gapless a.slot_out p.begins l) ∙ (ap (λ (o : Option C). is_some o) (sym (same a.slot_out)) ∙ p.ends))))
      (λ (l : b.slot_out ≤ a.slot_out). l)
      (cases_lt a.slot_out b.slot_out)

  pub fronts_agree : (gs hs : List (ℕ × C)) (a b : ReplicaState C I R M) → ((s : ℕ) → at_slot s gs ≡ at_slot s hs) → IsFrontOf rules gs a → IsFrontOf rules hs b → (a.slot_out ≡ b.slot_out) × (a.performed ≡ b.performed)
  fronts_agree gs hs a b same p q =
      let low : b.slot_out ≤ a.slot_out = no_further gs hs a b same p q in
      let high : a.slot_out ≤ b.slot_out = no_further hs gs b a (λ s. sym (same s)) q p in
      let out : a.slot_out ≡ b.slot_out = omega (arith, low, high) in
      (out, p.performed ∙ (ap (λ n. once rules [] (first_slots (n - 1) gs)) out ∙ (ap (once rules []) (first_slots-same (b.slot_out - 1) gs hs (λ s from to. same s)) ∙ sym q.performed)))

module _ {C I R M : Type 0} (A : Type 0) (rules : Rules C I R M) (total : IsTotalOrder rules.compare) where
  pub decided_performs : (first : M) (s : ℕ) (c : C) (r : ReplicaState C I R M) → AreAnswers rules first r → Performs rules r (learns {A = A} rules s c r).after
  decided_performs first s c r h =
      let n : ℕ = length (with_decided s c r.decisions) in
      let known : ReplicaState C I R M = with_decision s c r in
      let h' : AreAnswers rules first known = record { machine = h.machine; ordered = h.ordered; waiting = h.waiting; answered = h.answered } in
      let last : ReplicaState C I R M = performs_slots rules n known in
      let p = performs_to_alike rules total known last (proposes {A = A} last).after (performs_turns rules total first n known h') (proposes_alike A rules last) in
      record { more = p.more; performed = p.performed; machine = p.machine; answers = p.answers }

  pub decided_answers : (first : M) (s : ℕ) (c : C) (r : ReplicaState C I R M) → AreAnswers rules first r → AreAnswers rules first (learns {A = A} rules s c r).after
  decided_answers first s c r h =
      let n : ℕ = length (with_decided s c r.decisions) in
      let last : ReplicaState C I R M = performs_slots rules n (with_decision s c r) in
      let same = proposes_alike A rules last in
      still_answers rules total first r (learns {A = A} rules s c r).after h (decided_performs first s c r h) (rw same.awaited (slots_ascend rules total n (with_decision s c r) h.ordered))

  -- what is awaited after a request
  pub awaiting_for : (c : C) (i : I) (r : ReplicaState C I R M) →
      awaited_for rules i (awaiting rules c r) ≡ cond (has_identity rules (rules.identity c) r.performed) (awaited_for rules i r) (cond (is_eq (rules.compare (rules.identity c) i)) (Some None) (awaited_for rules i r))
  awaiting_for c i r =
      go (has_identity rules (rules.identity c) r.performed)
    where
      go : (t : Bool) → lookup (is_at (rules.compare i)) (cond t r.awaited (insert_entry rules.compare r.awaited (rules.identity c) None)) ≡ cond t (awaited_for rules i r) (cond (is_eq (rules.compare (rules.identity c) i)) (Some None) (awaited_for rules i r))
      go true = refl
      go false = lookup_inserted total (rules.identity c) i None r.awaited

  awaiting_answers : (first : M) (c : C) (r : ReplicaState C I R M) → AreAnswers rules first r → AreAnswers rules first (with_request c (awaiting rules c r))
  awaiting_answers first c r h =
      record {
        machine = h.machine;
        ordered = ascends (has_identity rules (rules.identity c) r.performed);
        waiting = λ i there. waits i (has_identity rules (rules.identity c) r.performed) (is_eq (rules.compare (rules.identity c) i)) refl refl (sym (awaiting_for c i r) ∙ there);
        answered = λ i a there. answers i a (has_identity rules (rules.identity c) r.performed) (is_eq (rules.compare (rules.identity c) i)) (sym (awaiting_for c i r) ∙ there);
      }
    where
      ascends : (t : Bool) → Ascend rules (cond t r.awaited (insert_entry rules.compare r.awaited (rules.identity c) None))
      ascends true = h.ordered
      ascends false = ascend_inserted rules total (rules.identity c) None r.awaited h.ordered

      waits : (i : I) (t u : Bool) → has_identity rules (rules.identity c) r.performed ≡ t → is_eq (rules.compare (rules.identity c) i) ≡ u → cond t (awaited_for rules i r) (cond u (Some None) (awaited_for rules i r)) ≡ Some None → has_identity rules i r.performed ≡ false
      waits i true u p q there = h.waiting i there
      waits i false true p q there = has_same rules total (rules.identity c) i r.performed q ∙ p
      waits i false false p q there = h.waiting i there

      answers : (i : I) (a : R) (t u : Bool) → cond t (awaited_for rules i r) (cond u (Some None) (awaited_for rules i r)) ≡ Some (Some a) → answer_among rules i first r.performed ≡ Some a
      answers i a true u there = h.answered i a there
      answers i a false true there = absurd (cc)
      answers i a false false there = h.answered i a there

  -- what is awaited after an answer is taken
  without_for : (i j : I) (o : Option R) (r : ReplicaState C I R M) → Ascend rules r.awaited → (awaited_for rules j (without_answer rules i o r) ≡ awaited_for rules j r) ⊎ (awaited_for rules j (without_answer rules i o r) ≡ None)
  without_for i j None r h = inl refl
  without_for i j (Some a) r h =
      go (is_eq (rules.compare i j)) (lookup_removed rules total i j r.awaited h)
    where
      go : (t : Bool) → awaited_for rules j (without_answer rules i (Some a) r) ≡ cond t None (awaited_for rules j r) → (awaited_for rules j (without_answer rules i (Some a) r) ≡ awaited_for rules j r) ⊎ (awaited_for rules j (without_answer rules i (Some a) r) ≡ None)
      go true e = inr e
      go false e = inl e

  taken_answers : (first : M) (i : I) (r : ReplicaState C I R M) → AreAnswers rules first r → AreAnswers rules first (taken rules i r)
  taken_answers first i r h =
      go (answer_for rules i r.awaited)
    where
      go : (o : Option R) → AreAnswers rules first (without_answer rules i o r)
      go None = h
      go (Some a) =
          record {
            machine = h.machine;
            ordered = ascend_removed rules total i r.awaited h.ordered;
            waiting = λ j there. ⊎_elim (λ same. h.waiting j (sym same ∙ there)) (λ none. absurd (let no : None ≡ Some None = sym none ∙ there in cc)) (without_for i j (Some a) r h.ordered);
            answered = λ j b there. ⊎_elim (λ same. h.answered j b (sym same ∙ there)) (λ none. absurd (let no : None ≡ Some (Some b) = sym none ∙ there in cc)) (without_for i j (Some a) r h.ordered);
          }

  pub called_answers : (first : M) (call : Call C I) (r : ReplicaState C I R M) → AreAnswers rules first r → AreAnswers rules first (called {A = A} rules call r).after
  called_answers first (Requests c) r h =
      let asked : ReplicaState C I R M = with_request c (awaiting rules c r) in
      answers_alike rules total first (proposes {A = A} asked).after asked (proposes_alike A rules asked) (awaiting_answers first c r h)
  called_answers first (Decides s c) r h = decided_answers first s c r h
  called_answers first Ticks r h = h
  called_answers first (Takes i) r h = taken_answers first i r h

  pub answers_new : (me size window : ℕ) (machine : M) → AreAnswers rules machine (new_replica me size window machine)
  answers_new me size window machine = record { machine = refl; ordered = tt; waiting = λ i there. refl; answered = λ i a there. absurd (cc) }

  all_answers : (first : M) (calls : List (Call C I)) (r : ReplicaState C I R M) → AreAnswers rules first r → AreAnswers rules first (all_called A rules calls r)
  all_answers first [] r h = h
  all_answers first (call ∷ calls) r h = all_answers first calls (called {A = A} rules call r).after (called_answers first call r h)

  pub always_answers : (me size window : ℕ) (machine : M) (calls : List (Call C I)) → AreAnswers rules machine (all_called A rules calls (new_replica me size window machine))
  always_answers me size window machine calls = all_answers machine calls (new_replica me size window machine) (answers_new me size window machine)

  -- a request adds no answer
  pub requests_add_none : (first : M) (c : C) (r : ReplicaState C I R M) → AreAnswers rules first r → (i : I) → answer_for rules i (requested {A = A} rules c r).after.awaited ≡ answer_for rules i r.awaited
  requests_add_none first c r h i =
      let asked : ReplicaState C I R M = with_request c (awaiting rules c r) in
      ap (answer_for rules i) (proposes_alike A rules asked).awaited
      ∙ (ap held (awaiting_for c i r) ∙ go (has_identity rules (rules.identity c) r.performed) (is_eq (rules.compare (rules.identity c) i)) (awaited_for rules i r) refl refl refl)
    where
      go : (t u : Bool) (o : Option (Option R)) → has_identity rules (rules.identity c) r.performed ≡ t → is_eq (rules.compare (rules.identity c) i) ≡ u → awaited_for rules i r ≡ o → held (cond t o (cond u (Some None) o)) ≡ held o
      go true u o p q s = refl
      go false false o p q s = refl
      go false true None p q s = refl
      go false true (Some None) p q s = refl
      go false true (Some (Some a)) p q s = absurd (true≢false (sym (has_answer rules i first r.performed a (h.answered i a s)) ∙ (has_same rules total (rules.identity c) i r.performed q ∙ p)))

  pub others_stay : (i j : I) (r : ReplicaState C I R M) → Ascend rules r.awaited → is_eq (rules.compare i j) ≡ false → answer_for rules j (taken rules i r).awaited ≡ answer_for rules j r.awaited
  others_stay i j r h other =
      go (answer_for rules i r.awaited)
    where
      go : (o : Option R) → answer_for rules j (without_answer rules i o r).awaited ≡ answer_for rules j r.awaited
      go None = refl
      go (Some a) = ap held (lookup_removed rules total i j r.awaited h) ∙ rw other refl

  -- what was performed and isn't awaited never has an answer again
  pub record IsOver (i : I) (r : ReplicaState C I R M) : Type 0 where
    pub performed : has_identity rules i r.performed ≡ true
    pub gone : awaited_for rules i r ≡ None

  over_called : (first : M) (i : I) (call : Call C I) (r : ReplicaState C I R M) → AreAnswers rules first r → IsOver i r → IsOver i (called {A = A} rules call r).after
  over_called first i (Requests c) r h o =
      let asked : ReplicaState C I R M = with_request c (awaiting rules c r) in
      let same = proposes_alike A rules asked in
      record {
        performed = rw same.performed o.performed;
        gone = ap (lookup (is_at (rules.compare i))) same.awaited ∙ (awaiting_for c i r ∙ go (has_identity rules (rules.identity c) r.performed) (is_eq (rules.compare (rules.identity c) i)) refl refl);
      }
    where
      go : (t u : Bool) → has_identity rules (rules.identity c) r.performed ≡ t → is_eq (rules.compare (rules.identity c) i) ≡ u → cond t (awaited_for rules i r) (cond u (Some None) (awaited_for rules i r)) ≡ None
      go true u p q = o.gone
      go false false p q = o.gone
      go false true p q = absurd (true≢false (sym o.performed ∙ (has_same rules total (rules.identity c) i r.performed q ∙ p)))
  over_called first i (Decides s c) r h o =
      let p = decided_performs first s c r h in
      record {
        performed = rw p.performed (list_any-append (λ (x : ℕ × C). is_eq (rules.compare (rules.identity x.1) i)) r.performed p.more ∙ rw o.performed refl);
        gone = p.answers i ∙ ap (answered_with (answer_among rules i r.machine p.more)) o.gone;
      }
  over_called first i Ticks r h o = o
  over_called first i (Takes j) r h o =
      go (answer_for rules j r.awaited)
    where
      go : (a : Option R) → IsOver i (without_answer rules j a r)
      go None = o
      go (Some a) = record { performed = o.performed; gone = ⊎_elim (λ same. same ∙ o.gone) (λ none. none) (without_for j i (Some a) r h.ordered) }

  pub over_for_good : (first : M) (i : I) (calls : List (Call C I)) (r : ReplicaState C I R M) → AreAnswers rules first r → IsOver i r → IsOver i (all_called A rules calls r)
  over_for_good first i [] r h o = o
  over_for_good first i (call ∷ calls) r h o = over_for_good first i calls (called {A = A} rules call r).after (called_answers first call r h) (over_called first i call r h o)

  -- a taken answer is over
  pub over_taken : (first : M) (i : I) (a : R) (r : ReplicaState C I R M) → AreAnswers rules first r → answer_for rules i r.awaited ≡ Some a → IsOver i (taken rules i r)
  over_taken first i a r h e =
      rw e (record {
        performed = was (awaited_for rules i r) refl e;
        gone = lookup_removed rules total i i r.awaited h.ordered ∙ rw itself refl;
      })
    where
      itself : is_eq (rules.compare i i) ≡ true
      itself = ap is_eq (tied_itself total i)

      was : (o : Option (Option R)) → awaited_for rules i r ≡ o → held o ≡ Some a → has_identity rules i r.performed ≡ true
      was None s e = absurd (cc)
      was (Some None) s e = absurd (cc)
      was (Some (Some b)) s e = has_answer rules i first r.performed b (h.answered i b s)

  pub gone_for_good : (first : M) (i : I) (a : R) (calls : List (Call C I)) (r : ReplicaState C I R M) → AreAnswers rules first r → answer_for rules i r.awaited ≡ Some a → answer_for rules i (all_called A rules calls (taken rules i r)).awaited ≡ None
  gone_for_good first i a calls r h e = ap held (over_for_good first i calls (taken rules i r) (taken_answers first i r h) (over_taken first i a r h e)).gone
