-- The answers that calls add.
use Rattle.std.proofs.Common.{◌≡◌, ℕ, zero, suc, List, [], ◌∷◌, ◌++◌, Bool, true, false, Option, Some, None, option_map, refl, sym, ap, ◌∙◌, cond, append_assoc}
use Rattle.std.specs.Prelude.{◌||◌}
use Rattle.std.specs.Map.{lookup, set_value}
use Rattle.std.specs.BTreeMap.{is_at}
use Rattle.std.specs.Cmp.{IsTotalOrder}
use Rattle.std.specs.Ordering.{is_eq}
use Rattle.std.proofs.lemmas.List.{append-nil}
use Rattle.std.proofs.lemmas.List.Folds.{list_any-append}
use Rattle.std.proofs.lemmas.Bool.{true≢false}
use Rattle.replica.specs.Replicas.{Rules, ReplicaState, has_identity, performs, gives_way, performs_slots}
use Rattle.ballot.specs.Slots.{at_slot}
use Rattle.replica.proofs.Parts.{performs_next}
use Rattle.replica.specs.Calls.{after_all, answer_among, awaited_for, answered_with, AreAnswers, Performs, Ascend}
use Rattle.replica.proofs.Slots.{either}
use Rattle.replica.proofs.Identities.{has_same, lookup_set, ascend_set}
use Rattle.replica.proofs.Front.{Alike, gives_way_alike}

module _ {R : Type 0} where
  pub answered_none : (o : Option (Option R)) → answered_with None o ≡ o
  answered_none None = refl
  answered_none (Some None) = refl
  answered_none (Some (Some a)) = refl

  answered_twice : (a b : Option R) (o : Option (Option R)) → answered_with b (answered_with a o) ≡ answered_with (either a b) o
  answered_twice a b None = refl
  answered_twice None b (Some None) = refl
  answered_twice (Some x) b (Some None) = refl
  answered_twice a b (Some (Some x)) = refl

module _ {C I R M : Type 0} (rules : Rules C I R M) where
  pub after_append : (m : M) (ps qs : List (ℕ × C)) → after_all rules m (ps ++ qs) ≡ after_all rules (after_all rules m ps) qs
  after_append m [] qs = refl
  after_append m (p ∷ ps) qs = after_append (rules.after m p.1) ps qs

  pub among_append : (i : I) (m : M) (ps qs : List (ℕ × C)) → answer_among rules i m (ps ++ qs) ≡ either (answer_among rules i m ps) (answer_among rules i (after_all rules m ps) qs)
  among_append i m [] qs = refl
  among_append i m (p ∷ ps) qs =
      go (is_eq (rules.compare (rules.identity p.1) i)) (among_append i (rules.after m p.1) ps qs)
    where
      later : Option R
      later = answer_among rules i (after_all rules (rules.after m p.1) ps) qs

      go : (t : Bool) → answer_among rules i (rules.after m p.1) (ps ++ qs) ≡ either (answer_among rules i (rules.after m p.1) ps) later →
          cond t (Some (rules.answer_to m p.1)) (answer_among rules i (rules.after m p.1) (ps ++ qs)) ≡ either (cond t (Some (rules.answer_to m p.1)) (answer_among rules i (rules.after m p.1) ps)) later
      go true h = refl
      go false h = h

  -- what isn't among the commands has no answer, and an answer is of one that is
  pub no_answer : (i : I) (m : M) (ps : List (ℕ × C)) → has_identity rules i ps ≡ false → answer_among rules i m ps ≡ None
  no_answer i m [] h = refl
  no_answer i m (p ∷ ps) h =
      go (is_eq (rules.compare (rules.identity p.1) i)) h (no_answer i (rules.after m p.1) ps)
    where
      go : (t : Bool) → (t || has_identity rules i ps) ≡ false → (has_identity rules i ps ≡ false → answer_among rules i (rules.after m p.1) ps ≡ None) → cond t (Some (rules.answer_to m p.1)) (answer_among rules i (rules.after m p.1) ps) ≡ None
      go true h k = absurd (true≢false h)
      go false h k = k h

  pub not_among : (i : I) (m : M) (ps : List (ℕ × C)) → answer_among rules i m ps ≡ None → has_identity rules i ps ≡ false
  not_among i m [] h = refl
  not_among i m (p ∷ ps) h =
      go (is_eq (rules.compare (rules.identity p.1) i)) h (not_among i (rules.after m p.1) ps)
    where
      go : (t : Bool) → cond t (Some (rules.answer_to m p.1)) (answer_among rules i (rules.after m p.1) ps) ≡ None → (answer_among rules i (rules.after m p.1) ps ≡ None → has_identity rules i ps ≡ false) → (t || has_identity rules i ps) ≡ false
      go true h k = absurd (cc)
      go false h k = k h

  pub has_answer : (i : I) (m : M) (ps : List (ℕ × C)) (a : R) → answer_among rules i m ps ≡ Some a → has_identity rules i ps ≡ true
  has_answer i m ps a h =
      go (has_identity rules i ps) refl
    where
      go : (t : Bool) → has_identity rules i ps ≡ t → t ≡ true
      go true q = refl
      go false q = let none : None ≡ Some a = sym (no_answer i m ps q) ∙ h in absurd (cc)

module _ {C I R M : Type 0} (rules : Rules C I R M) (total : IsTotalOrder rules.compare) where
  -- a call that performs nothing, and two in turn
  pub performs_none : (r : ReplicaState C I R M) → Performs rules r r
  performs_none r = record { more = []; performed = sym (append-nil r.performed); machine = refl; answers = λ i. sym (answered_none (awaited_for rules i r)) }

  pub performs_both : (a b c : ReplicaState C I R M) → Performs rules a b → Performs rules b c → Performs rules a c
  performs_both a b c p q =
      record {
        more = p.more ++ q.more;
        performed = q.performed ∙ (ap (λ ps. ps ++ q.more) p.performed ∙ append_assoc a.performed p.more q.more);
        machine = q.machine ∙ (ap (λ m. after_all rules m q.more) p.machine ∙ sym (after_append rules a.machine p.more q.more));
        answers = λ i.
            let first : Option R = answer_among rules i a.machine p.more in
            let second : Option R = answer_among rules i b.machine q.more in
            let both : either first second ≡ answer_among rules i a.machine (p.more ++ q.more) = ap (λ m. either first (answer_among rules i m q.more)) p.machine ∙ sym (among_append rules i a.machine p.more q.more) in
            q.answers i ∙ (ap (answered_with second) (p.answers i) ∙ (answered_twice first second (awaited_for rules i a) ∙ ap (λ o. answered_with o (awaited_for rules i a)) both));
      }

  pub performs_alike : (a b c : ReplicaState C I R M) → Alike b a → Performs rules b c → Performs rules a c
  performs_alike a b c same p =
      record {
        more = p.more;
        performed = p.performed ∙ ap (λ ps. ps ++ p.more) same.performed;
        machine = p.machine ∙ ap (λ m. after_all rules m p.more) same.machine;
        answers = λ i. p.answers i ∙ rw (same.machine, same.awaited) refl;
      }

  pub performs_to_alike : (a b c : ReplicaState C I R M) → Performs rules a b → Alike c b → Performs rules a c
  performs_to_alike a b c p same =
      record {
        more = p.more;
        performed = same.performed ∙ p.performed;
        machine = same.machine ∙ p.machine;
        answers = λ i. ap (lookup (is_at (rules.compare i))) same.awaited ∙ p.answers i;
      }

  pub answers_alike : (first : M) (a b : ReplicaState C I R M) → Alike a b → AreAnswers rules first b → AreAnswers rules first a
  answers_alike first a b same h =
      record {
        machine = rw (same.machine, same.performed) h.machine;
        ordered = rw same.awaited h.ordered;
        waiting = rw (same.awaited, same.performed) h.waiting;
        answered = rw (same.awaited, same.performed) h.answered;
      }

  -- whoever awaits the command has its answer, if nobody has one yet
  answers_set : (c : C) (a : R) (i : I) (awaited : List (I × Option R)) → ((b : R) → lookup (is_at (rules.compare i)) awaited ≡ Some (Some b) → is_eq (rules.compare (rules.identity c) i) ≡ false)
      → lookup (is_at (rules.compare i)) (set_value (is_at (rules.compare (rules.identity c))) awaited (Some a)) ≡ answered_with (cond (is_eq (rules.compare (rules.identity c) i)) (Some a) None) (lookup (is_at (rules.compare i)) awaited)
  answers_set c a i awaited fresh =
      lookup_set total (rules.identity c) i (Some a) awaited ∙ go (is_eq (rules.compare (rules.identity c) i)) (lookup (is_at (rules.compare i)) awaited) fresh
    where
      go : (t : Bool) (o : Option (Option R)) → ((b : R) → o ≡ Some (Some b) → t ≡ false) → cond t (option_map (λ _. Some a) o) o ≡ answered_with (cond t (Some a) None) o
      go true None k = refl
      go true (Some None) k = refl
      go true (Some (Some b)) k = absurd (true≢false (k b refl))
      go false o k = sym (answered_none o)

  -- one command
  performs_one : (first : M) (c : C) (r : ReplicaState C I R M) → AreAnswers rules first r → Performs rules r (performs rules c r)
  performs_one first c r h =
      go (has_identity rules (rules.identity c) r.performed) refl
    where
      go : (t : Bool) → has_identity rules (rules.identity c) r.performed ≡ t → Performs rules r (performs rules c r)
      go true q =
          rw q (record { more = []; performed = sym (append-nil r.performed); machine = refl; answers = λ i. sym (answered_none (awaited_for rules i r)) })
      go false q =
          let fresh : (i : I) (b : R) → awaited_for rules i r ≡ Some (Some b) → is_eq (rules.compare (rules.identity c) i) ≡ false =
          λ i b there. other i b there (is_eq (rules.compare (rules.identity c) i)) refl in
          rw q (record { more = (r.slot_out, c) ∷ []; performed = refl; machine = refl; answers = λ i. answers_set c (rules.answer_to r.machine c) i r.awaited (fresh i) })
        where
          other : (i : I) (b : R) → awaited_for rules i r ≡ Some (Some b) → (t : Bool) → is_eq (rules.compare (rules.identity c) i) ≡ t → t ≡ false
          other i b there false s = refl
          other i b there true s =
              absurd (true≢false (sym (has_answer rules i first r.performed b (h.answered i b there)) ∙ (has_same rules total (rules.identity c) i r.performed s ∙ q)))

  -- what a call performs keeps the answers right
  pub still_answers : (first : M) (r new : ReplicaState C I R M) → AreAnswers rules first r → Performs rules r new → Ascend rules new.awaited → AreAnswers rules first new
  still_answers first r new h p ascend =
      record {
        machine = p.machine ∙ (ap (λ m. after_all rules m p.more) h.machine ∙ (sym (after_append rules first r.performed p.more) ∙ ap (after_all rules first) (sym p.performed)));
        ordered = ascend;
        waiting = λ i there. rw p.performed (list_any-append (λ (x : ℕ × C). is_eq (rules.compare (rules.identity x.1) i)) r.performed p.more ∙ waits i (awaited_for rules i r) (answer_among rules i r.machine p.more) refl refl (sym (p.answers i) ∙ there));
        answered = λ i a there. ap (answer_among rules i first) p.performed ∙ (among_append rules i first r.performed p.more ∙ answers i a (awaited_for rules i r) (answer_among rules i r.machine p.more) refl refl (sym (p.answers i) ∙ there));
      }
    where
      waits : (i : I) (o : Option (Option R)) (b : Option R) → awaited_for rules i r ≡ o → answer_among rules i r.machine p.more ≡ b → answered_with b o ≡ Some None → (has_identity rules i r.performed || has_identity rules i p.more) ≡ false
      waits i None b old new there = absurd (cc)
      waits i (Some (Some a)) b old new there = absurd (cc)
      waits i (Some None) (Some a) old new there = absurd (cc)
      waits i (Some None) None old new there = rw (h.waiting i old, not_among rules i r.machine p.more new) refl

      answers : (i : I) (a : R) (o : Option (Option R)) (b : Option R) → awaited_for rules i r ≡ o → answer_among rules i r.machine p.more ≡ b → answered_with b o ≡ Some (Some a) → either (answer_among rules i first r.performed) (answer_among rules i (after_all rules first r.performed) p.more) ≡ Some a
      answers i a None b old new there = absurd (cc)
      answers i a (Some (Some x)) b old new there = let same : x ≡ a = cc in rw (h.answered i x old, same) refl
      answers i a (Some None) None old new there = absurd (cc)
      answers i a (Some None) (Some x) old new there = let same : x ≡ a = cc in rw (no_answer rules i first r.performed (h.waiting i old), ← h.machine, new, same) refl

  performs_ascends : (c : C) (r : ReplicaState C I R M) → Ascend rules r.awaited → Ascend rules (performs rules c r).awaited
  performs_ascends c r h =
      go (has_identity rules (rules.identity c) r.performed) refl
    where
      go : (t : Bool) → has_identity rules (rules.identity c) r.performed ≡ t → Ascend rules (performs rules c r).awaited
      go true q = rw q h
      go false q = rw q (ascend_set rules total (rules.identity c) (Some (rules.answer_to r.machine c)) r.awaited h)

  next_ascends : (o : Option C) (r : ReplicaState C I R M) → Ascend rules r.awaited → Ascend rules (performs_next rules o r).awaited
  next_ascends None r h = h
  next_ascends (Some c) r h =
      let given : ReplicaState C I R M = gives_way rules c (at_slot r.slot_out r.proposals) r in
      performs_ascends c given (rw (gives_way_alike rules c (at_slot r.slot_out r.proposals) r).awaited h)

  performs_turn : (first : M) (o : Option C) (r : ReplicaState C I R M) → AreAnswers rules first r → Performs rules r (performs_next rules o r)
  performs_turn first None r h = performs_none r
  performs_turn first (Some c) r h =
      let given : ReplicaState C I R M = gives_way rules c (at_slot r.slot_out r.proposals) r in
      let same = gives_way_alike rules c (at_slot r.slot_out r.proposals) r in
      performs_alike r given (performs rules c given) same (performs_one first c given (answers_alike first given r same h))

  -- n turns
  pub performs_turns : (first : M) (n : ℕ) (r : ReplicaState C I R M) → AreAnswers rules first r → Performs rules r (performs_slots rules n r)
  performs_turns first zero r h = performs_none r
  performs_turns first (suc n) r h =
      let next : ReplicaState C I R M = performs_next rules (at_slot r.slot_out r.decisions) r in
      let p = performs_turn first (at_slot r.slot_out r.decisions) r h in
      let h' = still_answers first r next h p (next_ascends (at_slot r.slot_out r.decisions) r h.ordered) in
      performs_both r next (performs_slots rules n next) p (performs_turns first n next h')

  pub slots_ascend : (n : ℕ) (r : ReplicaState C I R M) → Ascend rules r.awaited → Ascend rules (performs_slots rules n r).awaited
  slots_ascend zero r h = h
  slots_ascend (suc n) r h = slots_ascend n (performs_next rules (at_slot r.slot_out r.decisions) r) (next_ascends (at_slot r.slot_out r.decisions) r h)
