-- What holds of a replica between calls.
use Rattle.std.proofs.Common.{◌≡◌, ℕ, ◌+◌, ◌-◌, ◌<◌, ◌≤◌, true, false, List, [], ◌∷◌, length, Option, Some, None, Bool, if◌then◌else◌, refl, sym, ap, ◌∙◌, subst, arith, ⊎_elim}
use Rattle.std.specs.Prelude.{IfSome}
use Rattle.std.proofs.lemmas.Bool.{cases_lt}
use Rattle.ballot.specs.declared.slot.TheConstants.{LAST_SLOT}
use Rattle.replica.specs.Replicas.{Rules, ReplicaState, new_replica, is_decided, once, can_propose, performs_slots, proposes, awaiting, requested, learns, without_answer, taken, answer_for, IsFrontOf, IsSettled, AreSlots}
use Rattle.ballot.specs.Sends.{stays}
use Rattle.ballot.specs.Slots.{at_slot}
use Rattle.replica.specs.Parts.{with_decided, with_decision, with_request}
use Rattle.replica.proofs.Slots.{none_is, kept_same, first_slots-same, from_slot_few}
use Rattle.replica.proofs.Front.{IsPart, part_slots, part_with, part_alike, ends, idle}
use Rattle.replica.proofs.Turns.{slots_alike, rests, idle_slots}

module _ {C I R M : Type 0} (rules : Rules C I R M) where
  pub part_of : (r : ReplicaState C I R M) → IsFrontOf rules r.decisions r → IsPart rules r
  part_of r f = record { begins = f.begins; gapless = f.gapless; performed = f.performed }

  pub settled_new : (me size window : ℕ) (machine : M) → IsSettled rules (new_replica me size window machine)
  settled_new me size window machine =
      record {
        front = record { begins = omega arith; gapless = λ s low high. absurd (omega (arith, low, high)); ends = refl; performed = refl };
        rests = refl;
      }

  -- the next slot that it performs is at most the one after the last
  pub out_is_near : (r : ReplicaState C I R M) → IsFrontOf rules r.decisions r → AreSlots r.decisions → (1 ≤ r.slot_out) × (r.slot_out ≤ LAST_SLOT + 1)
  out_is_near r f slots =
      (f.begins, ⊎_elim (λ (l : LAST_SLOT + 1 < r.slot_out). absurd (let low : LAST_SLOT + 1 ≤ LAST_SLOT = slots (LAST_SLOT + 1) (f.gapless (LAST_SLOT + 1) (omega arith) l) in omega (arith, low))) (λ (l : r.slot_out ≤ LAST_SLOT + 1). l) (cases_lt (LAST_SLOT + 1) r.slot_out))

  pub shown_near : (spent : Bool) (r here : ReplicaState C I R M) → (spent ≡ false → IsSettled rules r) → here ≡ r → AreSlots here.decisions
      → IfSome (if spent then None else Some r) (λ (_ : ReplicaState C I R M). (1 ≤ here.slot_out) × (here.slot_out ≤ LAST_SLOT + 1))
  shown_near true r here h same slots = tt
  shown_near false r here h same slots = out_is_near here (subst (λ (q : ReplicaState C I R M). IsFrontOf rules q.decisions q) (sym same) (h refl).front) slots

  -- proposing settles a front that has ended
  pub proposes_settled : (A : Type 0) (r : ReplicaState C I R M) → IsPart rules r → is_decided r.slot_out r.decisions ≡ false → IsSettled rules (proposes {A = A} r).after
  proposes_settled A r f end =
      let turns : ℕ = (r.slot_out + r.window) - r.slot_in in
      let same = slots_alike A turns r in
      let part = part_alike rules (proposes {A = A} r).after r same f in
      record {
        front = record { begins = part.begins; gapless = part.gapless; ends = rw (same.slot_out, same.decisions) end; performed = part.performed };
        rests = rests A turns r (omega arith);
      }

  pub decided_settled : (A : Type 0) (s : ℕ) (c : C) (r : ReplicaState C I R M) → IsSettled rules r → IsSettled rules (learns {A = A} rules s c r).after
  decided_settled A s c r h =
      let n : ℕ = length (with_decided s c r.decisions) in
      proposes_settled A (performs_slots rules n (with_decision s c r))
      (part_slots rules n (with_decision s c r) (part_with rules s c r (part_of r h.front)))
      (ends rules n (with_decision s c r) (from_slot_few r.slot_out (with_decided s c r.decisions)))

  pub requested_settled : (A : Type 0) (c : C) (r : ReplicaState C I R M) → IsSettled rules r → IsSettled rules (requested {A = A} rules c r).after
  requested_settled A c r h =
      proposes_settled A (with_request c (awaiting rules c r))
      (record { begins = h.front.begins; gapless = h.front.gapless; performed = h.front.performed }) h.front.ends

  pub taken_settled : (i : I) (r : ReplicaState C I R M) → IsSettled rules r → IsSettled rules (taken rules i r)
  taken_settled i r h =
      go (answer_for rules i r.awaited)
    where
      rests_still : (cs : List C) (r' : ReplicaState C I R M) → can_propose cs r ≡ false → r'.slot_in ≡ r.slot_in → r'.slot_out ≡ r.slot_out → r'.window ≡ r.window → can_propose cs r' ≡ false
      rests_still [] r' k a b c = refl
      rests_still (x ∷ xs) r' k a b c = rw (a, b, c) k

      go : (o : Option R) → IsSettled rules (without_answer rules i o r)
      go None = h
      go (Some answer) =
          record {
            front = record { begins = h.front.begins; gapless = h.front.gapless; ends = h.front.ends; performed = h.front.performed };
            rests = rests_still r.requests (without_answer rules i (Some answer) r) h.rests refl refl refl;
          }

  -- a decision for a slot that has one changes nothing
  pub decided_again : (A : Type 0) (s : ℕ) (c : C) (r : ReplicaState C I R M) → IsSettled rules r → is_decided s r.decisions ≡ true → learns {A = A} rules s c r ≡ stays r
  decided_again A s c r h d =
      let n : ℕ = length (with_decided s c r.decisions) in
      let known : with_decision s c r ≡ r = ap (λ ds. record r { decisions = ds }) (kept_same s c r.decisions d) in
      let same : performs_slots rules n (with_decision s c r) ≡ r = ap (performs_slots rules n) known ∙ idle rules n r (none_is (at_slot r.slot_out r.decisions) h.front.ends) in
      ap (λ (x : ReplicaState C I R M). proposes {A = A} x) same ∙ idle_slots A ((r.slot_out + r.window) - r.slot_in) r h.rests

  -- the front of what was given, if the decisions are the first that were given
  pub front_given : (given : List (ℕ × C)) (r : ReplicaState C I R M) → ((s : ℕ) → at_slot s r.decisions ≡ at_slot s given) → IsFrontOf rules r.decisions r → IsFrontOf rules given r
  front_given given r same f =
      record {
        begins = f.begins;
        gapless = λ s low high. rw (← same s) (f.gapless s low high);
        ends = rw (← same r.slot_out) f.ends;
        performed = f.performed ∙ ap (once rules []) (first_slots-same (r.slot_out - 1) r.decisions given (λ s low high. same s));
      }

-- what slot_in passes over is decided
pub whole_from : {C I R M : Type 0} (r : ReplicaState C I R M) → 1 ≤ r.slot_in → ((s : ℕ) → 1 ≤ s → s < r.slot_out → is_decided s r.decisions ≡ true) → (s : ℕ) → r.slot_in ≤ s → s < r.slot_out → is_decided s r.decisions ≡ true
whole_from r low whole s from to = whole s (omega (arith, low, from)) to
