-- What is awaited changes nothing else: replicas that differ in it alone take the same steps and send the same.
use Rattle.std.proofs.Common.{◌≡◌, refl, ap, ◌∙◌, sym, ℕ, zero, suc, List, [], ◌∷◌, ◌++◌, Bool, true, false, Option, Some, None, if◌then◌else◌, length, ◌+◌, ◌-◌}
use Rattle.ballot.specs.declared.outgoing.Outgoing.{Outgoing}
use Rattle.replica.specs.Taken.{but_awaited}
use Rattle.replica.specs.Replicas.{Rules, ReplicaState, is_decided, is_open, has_identity, performs, gives_way, performs_slots, proposes_next, proposes_slots, proposes, awaiting, requested, learns, replica_ticks}
use Rattle.ballot.specs.Sends.{Move}
use Rattle.ballot.specs.Slots.{at_slot}
use Rattle.replica.specs.Parts.{with_decided, with_request, with_decision}
use Rattle.replica.proofs.Parts.{performs_next}

module _ {C I R M : Type 0} where
  pick : (b : Bool) (x y x' y' : ReplicaState C I R M) → but_awaited x ≡ but_awaited x' → but_awaited y ≡ but_awaited y' → but_awaited (if b then x else y) ≡ but_awaited (if b then x' else y')
  pick true x y x' y' p q = p
  pick false x y x' y' p q = q

  module _ (rules : Rules C I R M) where
    performs_the_same : (c : C) (r : ReplicaState C I R M) → but_awaited (performs rules c r) ≡ but_awaited (performs rules c (but_awaited r))
    performs_the_same c r = pick (has_identity rules (rules.identity c) r.performed) _ _ _ _ refl refl

    gives_way_the_same : (c : C) (o : Option C) (r : ReplicaState C I R M) → but_awaited (gives_way rules c o r) ≡ but_awaited (gives_way rules c o (but_awaited r))
    gives_way_the_same c None r = refl
    gives_way_the_same c (Some own) r = refl

    performs_next_the_same : (o : Option C) (r : ReplicaState C I R M) → but_awaited (performs_next rules o r) ≡ but_awaited (performs_next rules o (but_awaited r))
    performs_next_the_same None r = refl
    performs_next_the_same (Some c) r =
        let own = at_slot r.slot_out r.proposals in
        performs_the_same c (gives_way rules c own r)
        ∙ ap (λ x. but_awaited (performs rules c x)) (gives_way_the_same c own r)
        ∙ sym (performs_the_same c (gives_way rules c own (but_awaited r)))

    pub performs_slots_the_same : (n : ℕ) (r : ReplicaState C I R M) → but_awaited (performs_slots rules n r) ≡ but_awaited (performs_slots rules n (but_awaited r))
    performs_slots_the_same zero r = refl
    performs_slots_the_same (suc n) r =
        let next = at_slot r.slot_out r.decisions in
        performs_slots_the_same n (performs_next rules next r)
        ∙ ap (λ x. but_awaited (performs_slots rules n x)) (performs_next_the_same next r)
        ∙ sym (performs_slots_the_same n (performs_next rules next (but_awaited r)))

module _ {C I R M A : Type 0} where
  pub record AreAlike (m n : Move (ReplicaState C I R M) C A) : Type 0 where
    pub replica : but_awaited m.after ≡ but_awaited n.after
    pub sends : m.sends ≡ n.sends

  pick_move : (b : Bool) (x y x' y' : Move (ReplicaState C I R M) C A) → AreAlike x x' → AreAlike y y' → AreAlike (if b then x else y) (if b then x' else y')
  pick_move true x y x' y' p q = p
  pick_move false x y x' y' p q = q

  proposes_next_alike : (cs : List C) (r : ReplicaState C I R M) → AreAlike (proposes_next cs r) (proposes_next cs (but_awaited r))
  proposes_next_alike [] r = record { replica = refl; sends = refl }
  proposes_next_alike (c ∷ cs) r =
      pick_move (is_open r) _ _ _ _ (pick_move (is_decided r.slot_in r.decisions) _ _ _ _ (record { replica = refl; sends = refl }) (record { replica = refl; sends = refl })) (record { replica = refl; sends = refl })

  proposes_slots_alike : (n : ℕ) (r : ReplicaState C I R M) → AreAlike (proposes_slots n r) (proposes_slots n (but_awaited r))
  proposes_slots_alike zero r = record { replica = refl; sends = refl }
  proposes_slots_alike (suc n) r =
      let Step = Move (ReplicaState C I R M) C A in
      let first : Step = proposes_next r.requests r in
      let other : Step = proposes_next r.requests (but_awaited r) in
      let same = proposes_next_alike r.requests r in
      let here = proposes_slots_alike n first.after in
      let there = proposes_slots_alike n other.after in
      record {
        replica = here.replica ∙ ap (λ (x : ReplicaState C I R M). but_awaited (proposes_slots {A = A} n x).after) same.replica ∙ sym there.replica;
        sends = ap (λ (xs : List (Outgoing C A)). xs ++ (proposes_slots n first.after).sends) same.sends
            ∙ ap (λ (xs : List (Outgoing C A)). other.sends ++ xs) (here.sends ∙ ap (λ (x : ReplicaState C I R M). (proposes_slots {A = A} n x).sends) same.replica ∙ sym there.sends);
      }

  proposes_alike : (r s : ReplicaState C I R M) → but_awaited r ≡ but_awaited s → AreAlike (proposes r) (proposes s)
  proposes_alike r s same =
      let turns = λ (x : ReplicaState C I R M). (x.slot_out + x.window) - x.slot_in in
      let here = proposes_slots_alike (turns r) r in
      let there = proposes_slots_alike (turns s) s in
      let between : proposes_slots {A = A} (turns r) (but_awaited r) ≡ proposes_slots (turns s) (but_awaited s) = ap (λ (x : ReplicaState C I R M). proposes_slots {A = A} (turns x) x) same in
      record {
        replica = here.replica ∙ ap (λ (m : Move (ReplicaState C I R M) C A). but_awaited m.after) between ∙ sym there.replica;
        sends = here.sends ∙ ap (λ (m : Move (ReplicaState C I R M) C A). m.sends) between ∙ sym there.sends;
      }

  pub ticked_alike : (r s : ReplicaState C I R M) → but_awaited r ≡ but_awaited s → (replica_ticks {A = A} r).sends ≡ (replica_ticks {A = A} s).sends
  ticked_alike r s same = ap (λ (x : ReplicaState C I R M). (replica_ticks {A = A} x).sends) same

  module _ (rules : Rules C I R M) where
    pub requested_alike : (c : C) (r s : ReplicaState C I R M) → but_awaited r ≡ but_awaited s → AreAlike (requested rules c r) (requested rules c s)
    requested_alike c r s same = proposes_alike (with_request c (awaiting rules c r)) (with_request c (awaiting rules c s)) (ap (with_request c) same)

    pub decided_alike : (slot : ℕ) (c : C) (r s : ReplicaState C I R M) → but_awaited r ≡ but_awaited s → AreAlike (learns rules slot c r) (learns rules slot c s)
    decided_alike slot c r s same =
        let turns = λ (x : ReplicaState C I R M). length (with_decided slot c x.decisions) in
        proposes_alike _ _ (
        performs_slots_the_same rules (turns r) (with_decision slot c r)
        ∙ ap (λ (x : ReplicaState C I R M). but_awaited (performs_slots rules (turns x) (with_decision slot c x))) same
        ∙ sym (performs_slots_the_same rules (turns s) (with_decision slot c s)))
