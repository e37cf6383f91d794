-- What is performed is the whole gapless front.
use Rattle.std.proofs.Common.{◌≡◌, ◌≢◌, ℕ, zero, suc, ◌+◌, ◌-◌, ◌<◌, ◌≤◌, Bool, true, false, List, [], ◌∷◌, ◌++◌, Option, Some, None, refl, ap, ◌∙◌, sym, arith, subst, ⊎_elim, cond, append_assoc}
use Rattle.std.proofs.lemmas.List.{append-nil}
use Rattle.std.proofs.lemmas.Bool.{cases_eq}
use Rattle.replica.specs.Replicas.{Rules, ReplicaState, is_decided, first_slots, has_identity, once, performs, gives_way, performs_slots}
use Rattle.ballot.specs.Slots.{at_slot}
use Rattle.replica.specs.Parts.{with_decided, with_decision}
use Rattle.replica.proofs.Parts.{performs_next}
use Rattle.replica.proofs.Slots.{decided_stays, first_slots-same, from_slot, from_slot_none, from_slot_falls}

-- a front, which may go on
pub record IsPart {C I R M : Type 0} (rules : Rules C I R M) (r : ReplicaState C I R M) : Type 0 where
  pub begins : 1 ≤ r.slot_out
  pub gapless : (s : ℕ) → 1 ≤ s → s < r.slot_out → is_decided s r.decisions ≡ true
  pub performed : r.performed ≡ once rules [] (first_slots (r.slot_out - 1) r.decisions)

-- what proposals and requests leave alone
pub record Alike {C I R M : Type 0} (a b : ReplicaState C I R M) : Type 0 where
  pub size : a.size ≡ b.size
  pub window : a.window ≡ b.window
  pub slot_out : a.slot_out ≡ b.slot_out
  pub machine : a.machine ≡ b.machine
  pub decisions : a.decisions ≡ b.decisions
  pub performed : a.performed ≡ b.performed
  pub awaited : a.awaited ≡ b.awaited

module _ {C I R M : Type 0} where
  pub alike_itself : (a : ReplicaState C I R M) → Alike a a
  alike_itself a = record { size = refl; window = refl; slot_out = refl; machine = refl; decisions = refl; performed = refl; awaited = refl }

  pub alike_then : (a b c : ReplicaState C I R M) → Alike a b → Alike b c → Alike a c
  alike_then a b c p q =
      record {
        size = p.size ∙ q.size;
        window = p.window ∙ q.window;
        slot_out = p.slot_out ∙ q.slot_out;
        machine = p.machine ∙ q.machine;
        decisions = p.decisions ∙ q.decisions;
        performed = p.performed ∙ q.performed;
        awaited = p.awaited ∙ q.awaited;
      }

module _ {C I R M : Type 0} (rules : Rules C I R M) where
  pub gives_way_alike : (c : C) (o : Option C) (r : ReplicaState C I R M) → Alike (gives_way rules c o r) r
  gives_way_alike c None r = alike_itself r
  gives_way_alike c (Some own) r = record { size = refl; window = refl; slot_out = refl; machine = refl; decisions = refl; performed = refl; awaited = refl }

  pub once_push : (before ps : List (ℕ × C)) (p : ℕ × C) → once rules before (ps ++ p ∷ []) ≡ once rules before ps ++ cond (has_identity rules (rules.identity p.1) (before ++ once rules before ps)) [] (p ∷ [])
  once_push before [] p = rw (append-nil before) refl
  once_push before (q ∷ ps) p =
      go (has_identity rules (rules.identity q.1) before) (once_push before ps p) (once_push (before ++ q ∷ []) ps p)
    where
      go : (t : Bool) → once rules before (ps ++ p ∷ []) ≡ once rules before ps ++ cond (has_identity rules (rules.identity p.1) (before ++ once rules before ps)) [] (p ∷ [])
          → once rules (before ++ q ∷ []) (ps ++ p ∷ []) ≡ once rules (before ++ q ∷ []) ps ++ cond (has_identity rules (rules.identity p.1) ((before ++ q ∷ []) ++ once rules (before ++ q ∷ []) ps)) [] (p ∷ [])
          → cond t (once rules before (ps ++ p ∷ [])) (q ∷ once rules (before ++ q ∷ []) (ps ++ p ∷ []))
          ≡ cond t (once rules before ps) (q ∷ once rules (before ++ q ∷ []) ps)
          ++ cond (has_identity rules (rules.identity p.1) (before ++ cond t (once rules before ps) (q ∷ once rules (before ++ q ∷ []) ps))) [] (p ∷ [])
      go true first second = first
      go false first second = rw (second, append_assoc before (q ∷ []) (once rules (before ++ q ∷ []) ps)) refl

  pub performs_slot_out : (c : C) (r : ReplicaState C I R M) → (performs rules c r).slot_out ≡ r.slot_out + 1
  performs_slot_out c r =
      go (has_identity rules (rules.identity c) r.performed) refl
    where
      go : (t : Bool) → has_identity rules (rules.identity c) r.performed ≡ t → (performs rules c r).slot_out ≡ r.slot_out + 1
      go true h = rw h refl
      go false h = rw h refl

  pub performs_decisions : (c : C) (r : ReplicaState C I R M) → (performs rules c r).decisions ≡ r.decisions
  performs_decisions c r =
      go (has_identity rules (rules.identity c) r.performed) refl
    where
      go : (t : Bool) → has_identity rules (rules.identity c) r.performed ≡ t → (performs rules c r).decisions ≡ r.decisions
      go true h = rw h refl
      go false h = rw h refl

  performs_performed : (c : C) (r : ReplicaState C I R M) → (performs rules c r).performed ≡ r.performed ++ cond (has_identity rules (rules.identity c) r.performed) [] ((r.slot_out, c) ∷ [])
  performs_performed c r =
      go (has_identity rules (rules.identity c) r.performed) refl
    where
      go : (t : Bool) → has_identity rules (rules.identity c) r.performed ≡ t → (performs rules c r).performed ≡ r.performed ++ cond (has_identity rules (rules.identity c) r.performed) [] ((r.slot_out, c) ∷ [])
      go true h = rw h (sym (append-nil r.performed))
      go false h = rw h refl

  -- one slot more of the front
  longer_list : (c : C) (r : ReplicaState C I R M) (n : ℕ) → r.slot_out ≡ suc n → at_slot (suc n) r.decisions ≡ Some c → r.performed ≡ once rules [] (first_slots n r.decisions) → (performs rules c r).performed ≡ once rules [] (first_slots (suc n) r.decisions)
  longer_list c r n e h p =
      let p' : ℕ × C = (suc n, c) in
      let a : first_slots (suc n) r.decisions ≡ first_slots n r.decisions ++ p' ∷ [] = rw h refl in
      let b = once_push [] (first_slots n r.decisions) p' in
      performs_performed c r ∙ rw (a, b, ← p, e) refl

  part_performs : (c : C) (r : ReplicaState C I R M) → at_slot r.slot_out r.decisions ≡ Some c → IsPart rules r → IsPart rules (performs rules c r)
  part_performs c r h f =
      let out = performs_slot_out c r in
      let ds = performs_decisions c r in
      let n = r.slot_out - 1 in
      let e : r.slot_out ≡ suc n = omega (arith, f.begins) in
      let h' : at_slot (suc n) r.decisions ≡ Some c = subst (λ s. at_slot s r.decisions ≡ Some c) e h in
      record {
        begins = omega (arith, out);
        gapless = λ s low high. rw ds (⊎_elim (λ (same : s ≡ r.slot_out). rw (same, h) refl) (λ (other : s ≢ r.slot_out). f.gapless s low (omega (arith, out, high, other))) (cases_eq s r.slot_out));
        performed = let m : (performs rules c r).slot_out - 1 ≡ suc n = omega (arith, out, e) in rw (m, ds) (longer_list c r n e h' f.performed);
      }

  pub part_alike : (a b : ReplicaState C I R M) → Alike a b → IsPart rules b → IsPart rules a
  part_alike a b same f =
      record {
        begins = rw same.slot_out f.begins;
        gapless = rw (same.slot_out, same.decisions) f.gapless;
        performed = rw (same.slot_out, same.decisions, same.performed) f.performed;
      }

  part_next : (r : ReplicaState C I R M) → IsPart rules r → (o : Option C) → at_slot r.slot_out r.decisions ≡ o → IsPart rules (performs_next rules o r)
  part_next r f None h = f
  part_next r f (Some c) h =
      let given = gives_way rules c (at_slot r.slot_out r.proposals) r in
      let same = gives_way_alike c (at_slot r.slot_out r.proposals) r in
      part_performs c given (rw (same.slot_out, same.decisions) h) (part_alike given r same f)

  pub part_slots : (n : ℕ) (r : ReplicaState C I R M) → IsPart rules r → IsPart rules (performs_slots rules n r)
  part_slots zero r f = f
  part_slots (suc n) r f = part_slots n (performs_next rules (at_slot r.slot_out r.decisions) r) (part_next r f (at_slot r.slot_out r.decisions) refl)

  -- if the slot isn't decided, no more is performed
  pub idle : (n : ℕ) (r : ReplicaState C I R M) → at_slot r.slot_out r.decisions ≡ None → performs_slots rules n r ≡ r
  idle zero r h = refl
  idle (suc n) r h = rw h (idle n r h)

  -- with as many turns as there are decisions from slot_out on, the slot after them has none
  abbrev Ends : ℕ → ReplicaState C I R M → Type 0
  Ends n r = is_decided (performs_slots rules n r).slot_out (performs_slots rules n r).decisions ≡ false

  ends_next : (n : ℕ) (r : ReplicaState C I R M) (o : Option C) → at_slot r.slot_out r.decisions ≡ o → ((r' : ReplicaState C I R M) → from_slot r'.slot_out r'.decisions ≤ n → Ends n r') → from_slot r.slot_out r.decisions ≤ suc n → Ends n (performs_next rules o r)
  ends_next n r None h next few = rw (idle n r h, h) refl
  ends_next n r (Some c) h next few =
      let given = gives_way rules c (at_slot r.slot_out r.proposals) r in
      let same = gives_way_alike c (at_slot r.slot_out r.proposals) r in
      let decided : is_decided r.slot_out r.decisions ≡ true = rw h refl in
      let falls : from_slot (r.slot_out + 1) r.decisions < from_slot r.slot_out r.decisions = from_slot_falls r.slot_out r.decisions decided in
      let small : from_slot (performs rules c given).slot_out (performs rules c given).decisions ≤ n = rw (performs_slot_out c given, performs_decisions c given, same.slot_out, same.decisions) (omega (arith, falls, few)) in
      next (performs rules c given) small

  pub ends : (n : ℕ) (r : ReplicaState C I R M) → from_slot r.slot_out r.decisions ≤ n → Ends n r
  ends zero r few = let none : from_slot r.slot_out r.decisions ≡ 0 = omega (arith, few) in rw (from_slot_none r.slot_out r.decisions none) refl
  ends (suc n) r few = ends_next n r (at_slot r.slot_out r.decisions) refl (ends n) few

  -- a decision that comes leaves the front
  pub part_with : (s : ℕ) (c : C) (r : ReplicaState C I R M) → IsPart rules r → IsPart rules (with_decision s c r)
  part_with s c r f =
      record {
        begins = f.begins;
        gapless = λ t low high. rw (decided_stays s t c r.decisions (f.gapless t low high)) (f.gapless t low high);
        performed = f.performed ∙ ap (once rules []) (sym (first_slots-same (r.slot_out - 1) (with_decided s c r.decisions) r.decisions (λ t low high. decided_stays s t c r.decisions (f.gapless t low (omega (arith, f.begins, high))))));
      }

  pub next_decisions : (o : Option C) (r : ReplicaState C I R M) → (performs_next rules o r).decisions ≡ r.decisions
  next_decisions None r = refl
  next_decisions (Some c) r = performs_decisions c (gives_way rules c (at_slot r.slot_out r.proposals) r) ∙ (gives_way_alike c (at_slot r.slot_out r.proposals) r).decisions

  pub slots_decisions : (n : ℕ) (r : ReplicaState C I R M) → (performs_slots rules n r).decisions ≡ r.decisions
  slots_decisions zero r = refl
  slots_decisions (suc n) r = slots_decisions n (performs_next rules (at_slot r.slot_out r.decisions) r) ∙ next_decisions (at_slot r.slot_out r.decisions) r

  -- one turn, and the end of all
  pub turn_on : (n i : ℕ) (r mid new : ReplicaState C I R M) (c : C) → i < n → at_slot r.slot_out r.decisions ≡ Some c → mid ≡ gives_way rules c (at_slot r.slot_out r.proposals) r → new ≡ performs rules c mid → performs_slots rules (n - (i + 1)) new ≡ performs_slots rules (n - i) r
  turn_on n i r mid new c lt h e f =
      let one : n - i ≡ suc (n - (i + 1)) = omega (arith, lt) in
      ap (performs_slots rules (n - (i + 1))) (f ∙ ap (performs rules c) e) ∙ (sym (ap (λ o. performs_slots rules (n - (i + 1)) (performs_next rules o r)) h) ∙ sym (ap (λ k. performs_slots rules k r) one))

  pub ended : (n i k : ℕ) (r first : ReplicaState C I R M) → at_slot r.slot_out r.decisions ≡ None → performs_slots rules (n - i) r ≡ performs_slots rules n first → n ≡ k → r ≡ performs_slots rules k first
  ended n i k r first h invariant e = sym (idle (n - i) r h) ∙ (invariant ∙ ap (λ m. performs_slots rules m first) e)
