-- A replica whose answers were taken, beside one that keeps them: nothing else differs, whatever both are told.
use Rattle.std.proofs.Common.{◌≡◌, ℕ, List, ◌++◌, Bool, true, false, Option, Some, None, inl, inr, refl, sym, ap, ◌∙◌, subst, cond}
use Rattle.std.proofs.lemmas.List.{append_cancel_left}
use Rattle.std.specs.Map.{lookup}
use Rattle.std.specs.BTreeMap.{is_at}
use Rattle.std.specs.Cmp.{IsTotalOrder}
use Rattle.std.specs.Ordering.{is_eq}
use Rattle.replica.specs.Replicas.{Rules, ReplicaState, has_identity, awaiting, requested, learns, taken, without_answer, answer_for}
use Rattle.replica.specs.Parts.{with_request}
use Rattle.replica.proofs.Parts.{held}
use Rattle.replica.specs.Calls.{Requests, Takes, awaited_for, answered_with, answer_among, AreAnswers}
use Rattle.replica.proofs.Identities.{lookup_same, lookup_removed}
use Rattle.replica.proofs.History.{decided_performs, decided_answers, called_answers, awaiting_for, proposes_alike}
use Rattle.replica.specs.Taken.{IsLeft, IsButTaken}
use Rattle.replica.proofs.ButAwaited.{requested_alike, decided_alike}

pub left_itself : {R : Type 0} (o : Option (Option R)) → IsLeft o o
left_itself None = refl
left_itself (Some None) = refl
left_itself (Some (Some a)) = inl refl

left_answered : {R : Type 0} (o : Option R) (here there : Option (Option R)) → IsLeft here there → IsLeft (answered_with o here) (answered_with o there)
left_answered o here None e = ap (answered_with o) e
left_answered o here (Some None) e = subst (λ h. IsLeft (answered_with o h) (Some o)) (sym e) (left_itself (Some o))
left_answered o here (Some (Some a)) (inl e) = inl (ap (answered_with o) e)
left_answered o here (Some (Some a)) (inr e) = inr (ap (answered_with o) e)

left_cond : {R : Type 0} (t : Bool) (o here there : Option (Option R)) → IsLeft here there → IsLeft (cond t o here) (cond t o there)
left_cond true o here there l = left_itself o
left_cond false o here there l = l

left_unless : {R : Type 0} (t : Bool) (here there here' there' : Option (Option R)) → IsLeft here there → IsLeft here' there' → IsLeft (cond t here here') (cond t there there')
left_unless true here there here' there' l l' = l
left_unless false here there here' there' l l' = l'

-- before an answer is taken, a replica is beside itself
pub itself_left : {C I R M : Type 0} (rules : Rules C I R M) (first : M) (r : ReplicaState C I R M) → AreAnswers rules first r → IsButTaken rules first r r
itself_left rules first r h = record { here = h; there = h; same = refl; left = λ i. left_itself (awaited_for rules i r) }

module _ {C I R M : Type 0} (A : Type 0) (rules : Rules C I R M) (total : IsTotalOrder rules.compare) where
  -- a decision brings both the same
  pub decided_left : (first : M) (slot : ℕ) (c : C) (r s : ReplicaState C I R M) → IsButTaken rules first r s → IsButTaken rules first (learns {A = A} rules slot c r).after (learns {A = A} rules slot c s).after
  decided_left first slot c r s h =
      let p = decided_performs A rules total first slot c r h.here in
      let q = decided_performs A rules total first slot c s h.there in
      let same = (decided_alike {A = A} rules slot c r s h.same).replica in
      let performed : r.performed ≡ s.performed = ap (λ (x : ReplicaState C I R M). x.performed) h.same in
      let machine : r.machine ≡ s.machine = ap (λ (x : ReplicaState C I R M). x.machine) h.same in
      let more : p.more ≡ q.more = append_cancel_left s.performed p.more q.more (ap (λ (xs : List (ℕ × C)). xs ++ p.more) (sym performed) ∙ sym p.performed ∙ ap (λ (x : ReplicaState C I R M). x.performed) same ∙ q.performed) in
      let answer : (i : I) → answer_among rules i r.machine p.more ≡ answer_among rules i s.machine q.more = λ i.
      ap (λ (m : M). answer_among rules i m p.more) machine ∙ ap (answer_among rules i s.machine) more in
      record {
        here = decided_answers A rules total first slot c r h.here;
        there = decided_answers A rules total first slot c s h.there;
        same = same;
        left = λ i. rw (p.answers i, q.answers i, answer i) (left_answered (answer_among rules i s.machine q.more) (awaited_for rules i r) (awaited_for rules i s) (h.left i));
      }

  -- one answer comes to both, if it is awaited
  pub decided_answered : (first : M) (slot : ℕ) (c : C) (r s : ReplicaState C I R M) → IsButTaken rules first r s → (i : I) →
      (o : Option R) × ((awaited_for rules i (learns {A = A} rules slot c r).after ≡ answered_with o (awaited_for rules i r)) × (awaited_for rules i (learns {A = A} rules slot c s).after ≡ answered_with o (awaited_for rules i s)))
  decided_answered first slot c r s h i =
      let p = decided_performs A rules total first slot c r h.here in
      let q = decided_performs A rules total first slot c s h.there in
      let same = (decided_alike {A = A} rules slot c r s h.same).replica in
      let performed : r.performed ≡ s.performed = ap (λ (x : ReplicaState C I R M). x.performed) h.same in
      let machine : r.machine ≡ s.machine = ap (λ (x : ReplicaState C I R M). x.machine) h.same in
      let more : p.more ≡ q.more = append_cancel_left s.performed p.more q.more (ap (λ (xs : List (ℕ × C)). xs ++ p.more) (sym performed) ∙ sym p.performed ∙ ap (λ (x : ReplicaState C I R M). x.performed) same ∙ q.performed) in
      let answer : answer_among rules i r.machine p.more ≡ answer_among rules i s.machine q.more =
      ap (λ (m : M). answer_among rules i m p.more) machine ∙ ap (answer_among rules i s.machine) more in
      (answer_among rules i s.machine q.more, (p.answers i ∙ ap (λ (o : Option R). answered_with o (awaited_for rules i r)) answer, q.answers i))

  requested_awaited : (c : C) (i : I) (r : ReplicaState C I R M) → awaited_for rules i (requested {A = A} rules c r).after ≡ awaited_for rules i (awaiting rules c r)
  requested_awaited c i r = ap (λ (es : List (I × Option R)). lookup (is_at (rules.compare i)) es) (proposes_alike A rules (with_request c (awaiting rules c r))).awaited

  -- and so does a request
  pub requested_left : (first : M) (c : C) (r s : ReplicaState C I R M) → IsButTaken rules first r s → IsButTaken rules first (requested {A = A} rules c r).after (requested {A = A} rules c s).after
  requested_left first c r s h =
      let performed : r.performed ≡ s.performed = ap (λ (x : ReplicaState C I R M). x.performed) h.same in
      let known : has_identity rules (rules.identity c) r.performed ≡ has_identity rules (rules.identity c) s.performed = ap (has_identity rules (rules.identity c)) performed in
      record {
        here = called_answers A rules total first (Requests c) r h.here;
        there = called_answers A rules total first (Requests c) s h.there;
        same = (requested_alike {A = A} rules c r s h.same).replica;
        left = λ i.
            rw (requested_awaited c i r, requested_awaited c i s, awaiting_for A rules total c i r, awaiting_for A rules total c i s, known)
            (left_unless (has_identity rules (rules.identity c) s.performed) _ _ _ _ (h.left i) (left_cond (is_eq (rules.compare (rules.identity c) i)) (Some None) _ _ (h.left i)));
      }

-- an answer that is here is there
left_held : {R : Type 0} (here there : Option (Option R)) (a : R) → IsLeft here there → here ≡ Some (Some a) → IsLeft None there
left_held here None a l e = refl
left_held here (Some None) a l e = absurd (none_is_some (sym e ∙ l))
  where
    none_is_some : Some (Some a) ≡ Some None → ⊥
    none_is_some h = absurd (cc h)
left_held here (Some (Some b)) a l e = inr refl

held_is : {R : Type 0} (o : Option (Option R)) (a : R) → held o ≡ Some a → o ≡ Some (Some a)
held_is None a e = absurd (cc e)
held_is (Some o) a e = ap (λ x. Some x) e

module _ {C I R M : Type 0} (A : Type 0) (rules : Rules C I R M) (total : IsTotalOrder rules.compare) where
  -- an answer is taken here
  pub taken_left : (first : M) (i : I) (r s : ReplicaState C I R M) → IsButTaken rules first r s → IsButTaken rules first (taken rules i r) s
  taken_left first i r s h =
      go (answer_for rules i r.awaited) refl
    where
      go : (o : Option R) → answer_for rules i r.awaited ≡ o → IsButTaken rules first (without_answer rules i o r) s
      go None e = h
      go (Some a) e =
          record {
            here = subst (λ (o : Option R). AreAnswers rules first (without_answer rules i o r)) e (called_answers A rules total first (Takes i) r h.here);
            there = h.there;
            same = h.same;
            left = λ j. rw (lookup_removed rules total i j r.awaited h.here.ordered) (either (is_eq (rules.compare i j)) j refl);
          }
        where
          either : (t : Bool) (j : I) → is_eq (rules.compare i j) ≡ t → IsLeft (cond t None (awaited_for rules j r)) (awaited_for rules j s)
          either true j same = rw (lookup_same total i j s.awaited same) (left_held (awaited_for rules i r) (awaited_for rules i s) a (h.left i) (held_is (awaited_for rules i r) a e))
          either false j same = h.left j
