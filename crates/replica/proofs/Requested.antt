-- What is awaited is what was requested.
use Rattle.std.proofs.Common.{◌≡◌, ◌↔◌, ℕ, List, [], ◌∷◌, ◌++◌, Bool, true, false, Option, Some, None, is_some, refl, sym, ap, ◌∙◌, subst, cond, append_assoc}
use Rattle.std.specs.Prelude.{◌||◌}
use Rattle.std.specs.Map.{lookup}
use Rattle.std.specs.BTreeMap.{is_at}
use Rattle.std.specs.Cmp.{IsTotalOrder}
use Rattle.std.specs.Ordering.{is_eq}
use Rattle.std.proofs.lemmas.List.{append-nil}
use Rattle.std.proofs.lemmas.List.Folds.{list_any-append}
use Rattle.std.proofs.lemmas.Bool.{true≢false}
use Rattle.replica.specs.Replicas.{Rules, ReplicaState, new_replica, has_identity, awaiting, requested, learns, without_answer, taken, answer_for}
use Rattle.replica.specs.Parts.{with_request}
use Rattle.replica.proofs.Parts.{held}
use Rattle.replica.specs.Calls.{Call, Requests, Decides, Ticks, Takes, called, all_called, is_request_of, is_requested, answer_among, answered_with, awaited_for, AreAnswers}
use Rattle.replica.proofs.Identities.{has_same, lookup_same, lookup_removed}
use Rattle.replica.proofs.Answered.{no_answer}
use Rattle.replica.proofs.History.{proposes_alike, awaiting_for, decided_performs, called_answers, always_answers, answers_new}

or_left : (t u : Bool) → t ≡ true → (t || u) ≡ true
or_left true u h = refl
or_left false u h = absurd (true≢false (sym h))

or_right : (t u : Bool) → u ≡ true → (t || u) ≡ true
or_right true u h = refl
or_right false u h = h

or_one : (t : Bool) → (t || (true || false)) ≡ true
or_one true = refl
or_one false = refl

or_none : (t : Bool) → (t || (false || false)) ≡ t
or_none true = refl
or_none false = refl

either_false : (t u : Bool) → (t || u) ≡ false → (t ≡ false) × (u ≡ false)
either_false true u h = absurd (true≢false h)
either_false false u h = (refl, h)

module _ {C I R M : Type 0} (A : Type 0) (rules : Rules C I R M) (total : IsTotalOrder rules.compare) where
  -- what was requested by these calls and isn't performed is awaited, and nothing else is
  record Awaits (calls : List (Call C I)) (r : ReplicaState C I R M) : Type 0 where
    pub waits : (i : I) → is_requested rules i calls ≡ true → has_identity rules i r.performed ≡ false → awaited_for rules i r ≡ Some None
    pub only : (i : I) → is_some (awaited_for rules i r) ≡ true → is_requested rules i calls ≡ true

  -- one call more
  one_more : (i : I) (before : List (Call C I)) (call : Call C I) → is_requested rules i (before ++ call ∷ []) ≡ (is_requested rules i before || (is_request_of rules i call || false))
  one_more i before call = list_any-append (is_request_of rules i) before (call ∷ [])

  -- what is awaited after a request
  pub requested_for : (c : C) (i : I) (r : ReplicaState C I R M) →
      awaited_for rules i (requested {A = A} rules c r).after ≡ cond (has_identity rules (rules.identity c) r.performed) (awaited_for rules i r) (cond (is_eq (rules.compare (rules.identity c) i)) (Some None) (awaited_for rules i r))
  requested_for c i r = ap (λ (es : List (I × Option R)). lookup (is_at (rules.compare i)) es) (proposes_alike A rules (with_request c (awaiting rules c r))).awaited ∙ awaiting_for A rules total c i r

  requested_awaits : (before : List (Call C I)) (c : C) (r : ReplicaState C I R M) → Awaits before r → Awaits (before ++ Requests c ∷ []) (requested {A = A} rules c r).after
  requested_awaits before c r h =
      let same = proposes_alike A rules (with_request c (awaiting rules c r)) in
      record {
        waits = λ i asked new. requested_for c i r ∙ waits i (has_identity rules (rules.identity c) r.performed) (is_eq (rules.compare (rules.identity c) i)) refl refl (sym (one_more i before (Requests c)) ∙ asked) (ap (has_identity rules i) (sym same.performed) ∙ new);
        only = λ i some. one_more i before (Requests c) ∙ only i (has_identity rules (rules.identity c) r.performed) (is_eq (rules.compare (rules.identity c) i)) (ap (λ (o : Option (Option R)). is_some o) (sym (requested_for c i r)) ∙ some);
      }
    where
      waits : (i : I) (t u : Bool) → has_identity rules (rules.identity c) r.performed ≡ t → is_eq (rules.compare (rules.identity c) i) ≡ u → (is_requested rules i before || (u || false)) ≡ true → has_identity rules i r.performed ≡ false
          → cond t (awaited_for rules i r) (cond u (Some None) (awaited_for rules i r)) ≡ Some None
      waits i true true p q asked new = absurd (true≢false (sym p ∙ (sym (has_same rules total (rules.identity c) i r.performed q) ∙ new)))
      waits i true false p q asked new = h.waits i (sym (or_none (is_requested rules i before)) ∙ asked) new
      waits i false true p q asked new = refl
      waits i false false p q asked new = h.waits i (sym (or_none (is_requested rules i before)) ∙ asked) new

      only : (i : I) (t u : Bool) → is_some (cond t (awaited_for rules i r) (cond u (Some None) (awaited_for rules i r))) ≡ true → (is_requested rules i before || (u || false)) ≡ true
      only i true u some = or_left (is_requested rules i before) (u || false) (h.only i some)
      only i false true some = or_one (is_requested rules i before)
      only i false false some = or_left (is_requested rules i before) (false || false) (h.only i some)

  decided_awaits : (first : M) (before : List (Call C I)) (s : ℕ) (c : C) (r : ReplicaState C I R M) → AreAnswers rules first r → Awaits before r → Awaits (before ++ Decides s c ∷ []) (learns {A = A} rules s c r).after
  decided_awaits first before s c r k h =
      let p = decided_performs A rules total first s c r k in
      record {
        waits = λ i asked new.
            let none = either_false (has_identity rules i r.performed) (has_identity rules i p.more) (sym (list_any-append (λ (x : ℕ × C). is_eq (rules.compare (rules.identity x.1) i)) r.performed p.more) ∙ (ap (has_identity rules i) (sym p.performed) ∙ new)) in
            let still : awaited_for rules i r ≡ Some None = h.waits i (sym (or_none (is_requested rules i before)) ∙ (sym (one_more i before (Decides s c)) ∙ asked)) none.0 in
            p.answers i ∙ rw (still, no_answer rules i r.machine p.more none.1) refl;
        only = λ i some.
            one_more i before (Decides s c) ∙ (or_none (is_requested rules i before) ∙ h.only i (some_before (answer_among rules i r.machine p.more) (awaited_for rules i r) (ap (λ (o : Option (Option R)). is_some o) (sym (p.answers i)) ∙ some)));
      }
    where
      some_before : (answer : Option R) (o : Option (Option R)) → is_some (answered_with answer o) ≡ true → is_some o ≡ true
      some_before answer None e = e
      some_before answer (Some None) e = refl
      some_before answer (Some (Some a)) e = refl

  taken_awaits : (first : M) (before : List (Call C I)) (j : I) (r : ReplicaState C I R M) → AreAnswers rules first r → Awaits before r → Awaits before (taken rules j r)
  taken_awaits first before j r k h =
      go (answer_for rules j r.awaited) refl
    where
      go : (o : Option R) → answer_for rules j r.awaited ≡ o → Awaits before (without_answer rules j o r)
      go None e = h
      go (Some a) e =
          record {
            waits = λ i asked new. lookup_removed rules total j i r.awaited k.ordered ∙ waits i (is_eq (rules.compare j i)) refl (h.waits i asked new);
            only = λ i some. h.only i (only i (is_eq (rules.compare j i)) (ap (λ (o : Option (Option R)). is_some o) (sym (lookup_removed rules total j i r.awaited k.ordered)) ∙ some));
          }
        where
          waits : (i : I) (t : Bool) → is_eq (rules.compare j i) ≡ t → awaited_for rules i r ≡ Some None → cond t None (awaited_for rules i r) ≡ Some None
          waits i false q there = there
          waits i true q there = absurd (let no : None ≡ Some a = sym (ap held (sym (lookup_same total j i r.awaited q) ∙ there)) ∙ e in cc)

          only : (i : I) (t : Bool) → is_some (cond t None (awaited_for rules i r)) ≡ true → is_some (awaited_for rules i r) ≡ true
          only i true some = absurd (true≢false (sym some))
          only i false some = some

  awaits_more : (before : List (Call C I)) (call : Call C I) (r : ReplicaState C I R M) → ((i : I) → is_request_of rules i call ≡ false) → Awaits before r → Awaits (before ++ call ∷ []) r
  awaits_more before call r none h =
      record {
        waits = λ i asked new. h.waits i (sym (same i) ∙ asked) new;
        only = λ i some. same i ∙ h.only i some;
      }
    where
      same : (i : I) → is_requested rules i (before ++ call ∷ []) ≡ is_requested rules i before
      same i = one_more i before call ∙ (ap (λ (t : Bool). is_requested rules i before || (t || false)) (none i) ∙ or_none (is_requested rules i before))

  called_awaits : (first : M) (before : List (Call C I)) (call : Call C I) (r : ReplicaState C I R M) → AreAnswers rules first r → Awaits before r → Awaits (before ++ call ∷ []) (called {A = A} rules call r).after
  called_awaits first before (Requests c) r k h = requested_awaits before c r h
  called_awaits first before (Decides s c) r k h = decided_awaits first before s c r k h
  called_awaits first before Ticks r k h = awaits_more before Ticks r (λ i. refl) h
  called_awaits first before (Takes j) r k h = awaits_more before (Takes j) (taken rules j r) (λ i. refl) (taken_awaits first before j r k h)

  all_awaits : (first : M) (before calls : List (Call C I)) (r : ReplicaState C I R M) → AreAnswers rules first r → Awaits before r → Awaits (before ++ calls) (all_called A rules calls r)
  all_awaits first before [] r k h = subst (λ (cs : List (Call C I)). Awaits cs r) (sym (append-nil before)) h
  all_awaits first before (call ∷ calls) r k h =
      subst (λ (cs : List (Call C I)). Awaits cs (all_called A rules (call ∷ calls) r)) (append_assoc before (call ∷ []) calls)
      (all_awaits first (before ++ call ∷ []) calls (called {A = A} rules call r).after (called_answers A rules total first call r k) (called_awaits first before call r k h))

  always_awaits : (me size window : ℕ) (machine : M) (calls : List (Call C I)) → Awaits calls (all_called A rules calls (new_replica me size window machine))
  always_awaits me size window machine calls =
      all_awaits machine [] calls (new_replica me size window machine) (answers_new A rules total me size window machine)
      (record { waits = λ i asked new. absurd (true≢false (sym asked)); only = λ i some. absurd (true≢false (sym some)) })

  pub waiting_for : (me size window : ℕ) (machine : M) (calls : List (Call C I)) (i : I) →
      (awaited_for rules i (all_called A rules calls (new_replica me size window machine)) ≡ Some None)
      ↔ ((is_requested rules i calls ≡ true) × (has_identity rules i (all_called A rules calls (new_replica me size window machine)).performed ≡ false))
  waiting_for me size window machine calls i =
      let h = always_awaits me size window machine calls in
      let k = always_answers A rules total me size window machine calls in
      (λ there. (h.only i (ap (λ (o : Option (Option R)). is_some o) there), k.waiting i there), λ both. h.waits i both.0 both.1)

  pub held_for : (me size window : ℕ) (machine : M) (calls : List (Call C I)) (i : I) (answer : R) →
      answer_for rules i (all_called A rules calls (new_replica me size window machine)).awaited ≡ Some answer → is_requested rules i calls ≡ true
  held_for me size window machine calls i answer there =
      (always_awaits me size window machine calls).only i (some (awaited_for rules i (all_called A rules calls (new_replica me size window machine))) there)
    where
      some : (o : Option (Option R)) → held o ≡ Some answer → is_some o ≡ true
      some None e = absurd (let no : None ≡ Some answer = e in cc)
      some (Some x) e = refl
