-- Turns of proposing.
use Rattle.std.proofs.Common.{◌≡◌, ℕ, zero, suc, ◌+◌, ◌-◌, ◌<◌, ◌≤◌, Bool, true, false, List, [], ◌∷◌, ◌++◌, length, refl, ap, ◌∙◌, sym, arith, subst}
use Rattle.std.specs.Prelude.{◌&&◌, ◌==◌, nat_lt, nat_le}
use Rattle.std.proofs.lemmas.Bool.{true≢false, ltb-true, lt-ltb, le-leb}
use Rattle.ballot.specs.declared.slot.TheConstants.{LAST_SLOT}
use Rattle.ballot.specs.Sends.{to_all, Move, stays}
use Rattle.ballot.specs.declared.message.Message.TheVariants.{Propose}
use Rattle.replica.specs.Replicas.{ReplicaState, is_open, can_propose, is_decided, AreSlots, proposes_next, proposes_slots, proposes}
use Rattle.ballot.specs.Slots.{with_slot}
use Rattle.replica.proofs.Front.{Alike, alike_itself, alike_then}

both_true : (t u : Bool) → (t && u) ≡ true → t ≡ true
both_true true u h = refl
both_true false u h = h

module _ {C I R M : Type 0} where
  open_below : (r : ReplicaState C I R M) → is_open r ≡ true → r.slot_in < r.slot_out + r.window
  open_below r h = ltb-true r.slot_in (r.slot_out + r.window) (both_true (nat_lt r.slot_in (r.slot_out + r.window)) (nat_le r.slot_in LAST_SLOT) h)

  can_open : (cs : List C) (r : ReplicaState C I R M) → can_propose cs r ≡ true → is_open r ≡ true
  can_open [] r h = absurd (true≢false (sym h))
  can_open (c ∷ cs) r h = h

  pub not_open : (cs : List C) (r : ReplicaState C I R M) → is_open r ≡ false → can_propose cs r ≡ false
  not_open [] r h = refl
  not_open (c ∷ cs) r h = h

  pub waits_open : (cs : List C) (r : ReplicaState C I R M) → (length cs == 0) ≡ false → is_open r ≡ true → can_propose cs r ≡ true
  waits_open [] r h o = absurd (true≢false h)
  waits_open (c ∷ cs) r h o = o

  pub opened : (r : ReplicaState C I R M) → (r.slot_in < r.slot_out + r.window) × (r.slot_in ≤ LAST_SLOT) → is_open r ≡ true
  opened r h = rw (lt-ltb r.slot_in (r.slot_out + r.window) h.0, le-leb r.slot_in LAST_SLOT h.1) refl

module _ {C I R M : Type 0} (A : Type 0) where
  -- a move, and then n turns
  abbrev pub then_slots : ℕ → Move (ReplicaState C I R M) C A → Move (ReplicaState C I R M) C A
  then_slots n m = record { after = (proposes_slots {A = A} n m.after).after; sends = m.sends ++ (proposes_slots n m.after).sends }

  pub next_alike : (cs : List C) (r : ReplicaState C I R M) → Alike (proposes_next {A = A} cs r).after r
  next_alike [] r = alike_itself r
  next_alike (c ∷ cs) r =
      go (is_open r) (is_decided r.slot_in r.decisions) refl refl
    where
      go : (t u : Bool) → is_open r ≡ t → is_decided r.slot_in r.decisions ≡ u → Alike (proposes_next {A = A} (c ∷ cs) r).after r
      go true true p q = rw (p, q) (record { size = refl; window = refl; slot_out = refl; machine = refl; decisions = refl; performed = refl; awaited = refl })
      go true false p q = rw (p, q) (record { size = refl; window = refl; slot_out = refl; machine = refl; decisions = refl; performed = refl; awaited = refl })
      go false u p q = rw p (alike_itself r)

  pub slots_alike : (n : ℕ) (r : ReplicaState C I R M) → Alike (proposes_slots {A = A} n r).after r
  slots_alike zero r = alike_itself r
  slots_alike (suc n) r =
      let next : ReplicaState C I R M = (proposes_next {A = A} r.requests r).after in
      alike_then (proposes_slots {A = A} n next).after next r (slots_alike n next) (next_alike r.requests r)

  -- if nothing can be proposed, nothing is
  pub idle_next : (cs : List C) (r : ReplicaState C I R M) → can_propose cs r ≡ false → proposes_next {A = A} cs r ≡ stays r
  idle_next [] r h = refl
  idle_next (c ∷ cs) r h = rw h refl

  pub idle_slots : (n : ℕ) (r : ReplicaState C I R M) → can_propose r.requests r ≡ false → proposes_slots {A = A} n r ≡ stays r
  idle_slots zero r h = refl
  idle_slots (suc n) r h = ap (then_slots n) (idle_next r.requests r h) ∙ idle_slots n r h

  -- what one turn does
  pub next_passes : (cs : List C) (r : ReplicaState C I R M) → can_propose cs r ≡ true → is_decided r.slot_in r.decisions ≡ true → proposes_next {A = A} cs r ≡ stays (record r { slot_in = r.slot_in + 1 })
  next_passes [] r h d = absurd (true≢false (sym h))
  next_passes (c ∷ cs) r h d = rw (h, d) refl

  pub next_proposes : (c : C) (rest cs : List C) (r : ReplicaState C I R M) → cs ≡ c ∷ rest → is_open r ≡ true → is_decided r.slot_in r.decisions ≡ false
      → proposes_next {A = A} cs r ≡ record { after = record r { slot_in = r.slot_in + 1; requests = rest; proposals = with_slot r.slot_in c r.proposals }; sends = to_all r.size (Propose r.slot_in c) }
  next_proposes c rest cs r e o d = ap (λ xs. proposes_next {A = A} xs r) e ∙ rw (o, d) refl

  next_slot : (cs : List C) (r : ReplicaState C I R M) → can_propose cs r ≡ true → (proposes_next {A = A} cs r).after.slot_in ≡ r.slot_in + 1
  next_slot [] r h = absurd (true≢false (sym h))
  next_slot (c ∷ cs) r h =
      go (is_decided r.slot_in r.decisions) refl
    where
      go : (u : Bool) → is_decided r.slot_in r.decisions ≡ u → (proposes_next {A = A} (c ∷ cs) r).after.slot_in ≡ r.slot_in + 1
      go true q = rw (h, q) refl
      go false q = rw (h, q) refl

  -- the turns from i on
  pub turn : (n i : ℕ) (r : ReplicaState C I R M) → i < n → proposes_slots {A = A} (n - i) r ≡ then_slots (n - (i + 1)) (proposes_next r.requests r)
  turn n i r lt = let one : n - i ≡ suc (n - (i + 1)) = omega (arith, lt) in ap (λ k. proposes_slots {A = A} k r) one

  -- with as many turns as the window allows, nothing is left to propose
  pub rests : (n : ℕ) (r : ReplicaState C I R M) → (r.slot_out + r.window) - r.slot_in ≤ n → can_propose (proposes_slots {A = A} n r).after.requests (proposes_slots {A = A} n r).after ≡ false
  rests zero r few =
      go (can_propose r.requests r) refl
    where
      go : (t : Bool) → can_propose r.requests r ≡ t → can_propose r.requests r ≡ false
      go false h = h
      go true h = absurd (let low : r.slot_in < r.slot_out + r.window = open_below r (can_open r.requests r h) in omega (arith, low, few))
  rests (suc n) r few =
      let next : ReplicaState C I R M = (proposes_next {A = A} r.requests r).after in
      go next refl (can_propose r.requests r) refl (rests n next)
    where
      go : (next : ReplicaState C I R M) → next ≡ (proposes_next {A = A} r.requests r).after → (t : Bool) → can_propose r.requests r ≡ t → ((next.slot_out + next.window) - next.slot_in ≤ n → can_propose (proposes_slots {A = A} n next).after.requests (proposes_slots {A = A} n next).after ≡ false) → can_propose (proposes_slots {A = A} (suc n) r).after.requests (proposes_slots {A = A} (suc n) r).after ≡ false
      go next e false h k = subst (λ (m : Move (ReplicaState C I R M) C A). can_propose m.after.requests m.after ≡ false) (sym (idle_slots (suc n) r h)) h
      go next e true h k =
          let same = next_alike r.requests r in
          let low : r.slot_in < r.slot_out + r.window = open_below r (can_open r.requests r h) in
          let few' : (next.slot_out + next.window) - next.slot_in ≤ n = rw (e, same.slot_out, same.window, next_slot r.requests r h) (omega (arith, low, few)) in
          subst (λ (x : ReplicaState C I R M). can_propose (proposes_slots {A = A} n x).after.requests (proposes_slots {A = A} n x).after ≡ false) e (k few')

  -- decided slots are passed over
  passes : (k n m : ℕ) (r : ReplicaState C I R M) → m ≡ k + n → r.slot_in + k ≡ r.slot_out → (length r.requests == 0) ≡ false → AreSlots r.decisions → ((s : ℕ) → r.slot_in ≤ s → s < r.slot_out → is_decided s r.decisions ≡ true)
      → proposes_slots {A = A} m r ≡ proposes_slots n (record r { slot_in = r.slot_out })
  passes zero n m r e at waits slots whole =
      let same : m ≡ n = omega (arith, e) in
      let its : r.slot_in ≡ r.slot_out = omega (arith, at) in
      ap (λ k. proposes_slots {A = A} k r) same ∙ ap (λ s. proposes_slots {A = A} n (record r { slot_in = s })) its
  passes (suc k) n zero r e at waits slots whole = absurd (omega (arith, e))
  passes (suc k) n (suc m) r e at waits slots whole =
      let below : r.slot_in < r.slot_out = omega (arith, at) in
      let inside : r.slot_in < r.slot_out + r.window = omega (arith, below) in
      let here : is_decided r.slot_in r.decisions ≡ true = whole r.slot_in (omega arith) below in
      let low : r.slot_in ≤ LAST_SLOT = slots r.slot_in here in
      let opened : is_open r ≡ true = rw (lt-ltb r.slot_in (r.slot_out + r.window) inside, le-leb r.slot_in LAST_SLOT low) refl in
      let over : ReplicaState C I R M = record r { slot_in = r.slot_in + 1 } in
      ap (then_slots m) (next_passes r.requests r (waits_open r.requests r waits opened) here)
      ∙ passes k n m over (omega (arith, e)) (omega (arith, at)) waits slots (λ s from to. whole s (omega (arith, from)) to)

  pub passed_over : (r : ReplicaState C I R M) → r.slot_in < r.slot_out → (length r.requests == 0) ≡ false → AreSlots r.decisions → ((s : ℕ) → r.slot_in ≤ s → s < r.slot_out → is_decided s r.decisions ≡ true)
      → proposes {A = A} (record r { slot_in = r.slot_out }) ≡ proposes r
  passed_over r below waits slots whole =
      sym (passes (r.slot_out - r.slot_in) ((r.slot_out + r.window) - r.slot_out) ((r.slot_out + r.window) - r.slot_in) r (omega (arith, below)) (omega (arith, below)) waits slots whole)
