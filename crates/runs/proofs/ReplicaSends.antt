-- What a replica sends and keeps: its decisions, and commands that were requested.
use Rattle.std.proofs.Common.{◌≡◌, ℕ, zero, suc, ◌+◌, ◌-◌, List, [], ◌∷◌, ◌++◌, length, Bool, true, false, Option, Some, None, refl, ◌∙◌, subst, inl, inr, ⊎_elim, cond}
use Rattle.std.specs.Prelude.{nat_le}
use Rattle.std.specs.List.{flat_map}
use Rattle.std.specs.Ordering.{nat_cmp, is_eq}
use Rattle.ballot.specs.Lists.{IsIn}
use Rattle.ballot.specs.Sends.{to_all}
use Rattle.ballot.specs.declared.slot.TheConstants.{LAST_SLOT}
use Rattle.ballot.specs.declared.message.Message.{Message}
use Rattle.ballot.specs.declared.message.Message.TheVariants.{Propose, Ask}
use Rattle.ballot.specs.declared.outgoing.Outgoing.{Outgoing}
use Rattle.ballot.proofs.Member.{in_either, in_push}
use Rattle.ballot.proofs.Sends.{in_to_all}
use Rattle.leader.proofs.Asked.{in_flat_map}
use Rattle.leader.proofs.Slots.{at_slot-among, in_with_slot}
use Rattle.replica.specs.Replicas.{Rules, ReplicaState, is_decided, has_identity, is_open, awaiting, performs, gives_way, performs_slots, proposes_next, proposes_slots, proposes, proposal_again, asks, replica_ticks, requested, learns}
use Rattle.replica.proofs.Parts.{performs_next}
use Rattle.ballot.specs.Sends.{Move}
use Rattle.ballot.specs.Slots.{at_slot, with_slot, without_slot}
use Rattle.replica.specs.Parts.{with_decided, with_request, with_decision}

module _ {C : Type 0} where
  in_removed : (s : ℕ) (es : List (ℕ × C)) (p : ℕ × C) → IsIn p (without_slot s es) → IsIn p es
  in_removed s [] p h = h
  in_removed s (e ∷ es) p h =
      go (is_eq (nat_cmp s e.0)) (in_removed s es p) h
    where
      go : (t : Bool) → (IsIn p (without_slot s es) → IsIn p es) → IsIn p (cond t es (e ∷ without_slot s es)) → IsIn p (e ∷ es)
      go true ih k = inr k
      go false ih k = ⊎_elim (λ q. inl q) (λ t. inr (ih t)) k

module _ {C A : Type 0} (S : C → Type 0) where
  -- a message of a replica's own: a proposal of a command that has the property, or an Ask
  abbrev pub IsOfReplica : Message C A → Type 0
  IsOfReplica (Propose s c) = S c
  IsOfReplica (Ask s) = Unit {0}
  IsOfReplica _ = ⊥

  abbrev pub AreOfReplica : List (Outgoing C A) → Type 0
  AreOfReplica sends = (o : Outgoing C A) → IsIn o sends → IsOfReplica o.message

  of_all : (n : ℕ) (m : Message C A) → IsOfReplica m → AreOfReplica (to_all n m)
  of_all n m is o h = subst IsOfReplica (in_to_all n m o h) is

  of_both : (xs ys : List (Outgoing C A)) → AreOfReplica xs → AreOfReplica ys → AreOfReplica (xs ++ ys)
  of_both xs ys h k o i = ⊎_elim (λ l. h o l) (λ r. k o r) (in_either o xs ys i)

module _ {C I R M : Type 0} (S : C → Type 0) where
  -- each command that it holds for itself has the property
  pub record Holds (r : ReplicaState C I R M) : Type 0 where
    pub requests : (c : C) → IsIn c r.requests → S c
    pub proposals : (p : ℕ × C) → IsIn p r.proposals → S p.1

  -- a replica that goes on so with the decisions that it had
  pub record Goes (A : Type 0) (known : List (ℕ × C)) (move : Move (ReplicaState C I R M) C A) : Type 0 where
    pub decisions : move.after.decisions ≡ known
    pub holds : Holds move.after
    pub sends : AreOfReplica S move.sends

  goes_next : (A : Type 0) (cs : List C) (r : ReplicaState C I R M) → Holds r → ((c : C) → IsIn c cs → S c) → Goes A r.decisions (proposes_next cs r)
  goes_next A [] r h all = record { decisions = refl; holds = h; sends = λ o i. absurd i }
  goes_next A (c ∷ cs) r h all =
      go (is_open r) (is_decided r.slot_in r.decisions)
    where
      as_it_was : Goes A r.decisions (record { after = r; sends = [] })
      as_it_was = record { decisions = refl; holds = h; sends = λ o i. absurd i }

      passes : Goes A r.decisions (record { after = record r { slot_in = r.slot_in + 1 }; sends = [] })
      passes = record { decisions = refl; holds = record { requests = h.requests; proposals = h.proposals }; sends = λ o i. absurd i }

      offers : Goes A r.decisions (record { after = record r { slot_in = r.slot_in + 1; requests = cs; proposals = with_slot r.slot_in c r.proposals }; sends = to_all r.size (Propose r.slot_in c) })
      offers =
          record {
            decisions = refl;
            holds = record {
              requests = λ x i. all x (inr i);
              proposals = λ p i. ⊎_elim (λ (q : (r.slot_in, c) ≡ p). subst (λ (y : ℕ × C). S y.1) q (all c (inl refl))) (λ old. h.proposals p old) (in_with_slot r.slot_in c r.proposals p i);
            };
            sends = of_all S r.size (Propose r.slot_in c) (all c (inl refl));
          }

      go : (t u : Bool) → Goes A r.decisions (cond t (cond u (record { after = record r { slot_in = r.slot_in + 1 }; sends = [] })
          (record { after = record r { slot_in = r.slot_in + 1; requests = cs; proposals = with_slot r.slot_in c r.proposals }; sends = to_all r.size (Propose r.slot_in c) })) (record { after = r; sends = [] }))
      go true true = passes
      go true false = offers
      go false u = as_it_was

  goes_slots : (A : Type 0) (n : ℕ) (r : ReplicaState C I R M) → Holds r → Goes A r.decisions (proposes_slots n r)
  goes_slots A zero r h = record { decisions = refl; holds = h; sends = λ o i. absurd i }
  goes_slots A (suc n) r h =
      let first : Move (ReplicaState C I R M) C A = proposes_next r.requests r in
      let one = goes_next A r.requests r h h.requests in
      let rest = goes_slots A n first.after one.holds in
      record {
        decisions = rest.decisions ∙ one.decisions;
        holds = rest.holds;
        sends = of_both S first.sends (proposes_slots {A = A} n first.after).sends one.sends rest.sends;
      }

  goes : (A : Type 0) (r : ReplicaState C I R M) → Holds r → Goes A r.decisions (proposes r)
  goes A r h = goes_slots A ((r.slot_out + r.window) - r.slot_in) r h

  -- a replica that holds such commands, and these decisions
  abbrev pub Stays : List (ℕ × C) → ReplicaState C I R M → Type 0
  Stays decisions r = Holds r × (r.decisions ≡ decisions)

  either : (decisions : List (ℕ × C)) (t : Bool) (x y : ReplicaState C I R M) → Stays decisions x → Stays decisions y → Stays decisions (cond t x y)
  either decisions true x y h k = h
  either decisions false x y h k = k

module _ {C I R M : Type 0} (rules : Rules C I R M) (S : C → Type 0) where
  stays_performs : (c : C) (r : ReplicaState C I R M) → Holds S r → Stays S r.decisions (performs rules c r)
  stays_performs c r h =
      either S r.decisions (has_identity rules (rules.identity c) r.performed) _ _
      (record { requests = h.requests; proposals = h.proposals }, refl) (record { requests = h.requests; proposals = h.proposals }, refl)

  stays_gives_way : (c : C) (own : Option C) (r : ReplicaState C I R M) → at_slot r.slot_out r.proposals ≡ own → Holds S r → Stays S r.decisions (gives_way rules c own r)
  stays_gives_way c None r e h = (h, refl)
  stays_gives_way c (Some own) r e h =
      (record { requests = waits (is_eq (rules.compare (rules.identity own) (rules.identity c))); proposals = λ p i. h.proposals p (in_removed r.slot_out r.proposals p i) }, refl)
    where
      waits : (t : Bool) → (x : C) → IsIn x (cond t r.requests (own ∷ r.requests)) → S x
      waits true x i = h.requests x i
      waits false x i = ⊎_elim (λ (q : own ≡ x). subst S q (h.proposals (r.slot_out, own) (at_slot-among r.slot_out own r.proposals e))) (λ t. h.requests x t) i

  stays_next : (c : Option C) (r : ReplicaState C I R M) → Holds S r → Stays S r.decisions (performs_next rules c r)
  stays_next None r h = (h, refl)
  stays_next (Some c) r h =
      let way : ReplicaState C I R M = gives_way rules c (at_slot r.slot_out r.proposals) r in
      let one = stays_gives_way c (at_slot r.slot_out r.proposals) r refl h in
      let two = stays_performs c way one.0 in
      (two.0, two.1 ∙ one.1)

  stays_slots : (n : ℕ) (r : ReplicaState C I R M) → Holds S r → Stays S r.decisions (performs_slots rules n r)
  stays_slots zero r h = (h, refl)
  stays_slots (suc n) r h =
      let next : ReplicaState C I R M = performs_next rules (at_slot r.slot_out r.decisions) r in
      let one = stays_next (at_slot r.slot_out r.decisions) r h in
      let rest = stays_slots n next one.0 in
      (rest.0, rest.1 ∙ one.1)

  -- a request
  pub goes_requested : (A : Type 0) (c : C) (r : ReplicaState C I R M) → S c → Holds S r → Goes S A r.decisions (requested rules c r)
  goes_requested A c r is h =
      goes S A (with_request c (awaiting rules c r))
      (record { requests = λ x i. ⊎_elim (λ old. h.requests x old) (λ (q : c ≡ x). subst S q is) (in_push x c r.requests i); proposals = h.proposals })

  -- a decision
  pub goes_decided : (A : Type 0) (s : ℕ) (c : C) (r : ReplicaState C I R M) → Holds S r → Goes S A (with_decided s c r.decisions) (learns rules s c r)
  goes_decided A s c r h =
      let n : ℕ = length (with_decided s c r.decisions) in
      let performed = stays_slots n (with_decision s c r) (record { requests = h.requests; proposals = h.proposals }) in
      let on = goes S A (performs_slots rules n (with_decision s c r)) performed.0 in
      record { decisions = on.decisions ∙ performed.1; holds = on.holds; sends = on.sends }

-- Tick
module _ {C I R M : Type 0} (S : C → Type 0) (A : Type 0) where
  again_sends : (r : ReplicaState C I R M) (p : ℕ × C) → S p.1 → AreOfReplica {A = A} S (proposal_again r p)
  again_sends r p is =
      go (is_decided p.0 r.decisions)
    where
      go : (t : Bool) → AreOfReplica {A = A} S (cond t [] (to_all r.size (Propose p.0 p.1)))
      go true = λ o i. absurd i
      go false = of_all S r.size (Propose p.0 p.1) is

  asks_sends : (r : ReplicaState C I R M) → AreOfReplica {A = A} S (asks r)
  asks_sends r =
      go (nat_le r.slot_out LAST_SLOT)
    where
      go : (t : Bool) → AreOfReplica {A = A} S (cond t (to_all r.size (Ask r.slot_out)) [])
      go true = of_all S r.size (Ask r.slot_out) tt
      go false = λ o i. absurd i

  pub tick_sends : (r : ReplicaState C I R M) → Holds S r → AreOfReplica {A = A} S (replica_ticks r).sends
  tick_sends r h =
      of_both S (flat_map (proposal_again r) r.proposals) (asks r)
      (λ o i. let x = in_flat_map A (proposal_again r) r.proposals o i in again_sends r x.0 (h.proposals x.0 x.1) o x.2)
      (asks_sends r)
