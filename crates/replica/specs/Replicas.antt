-- Replicas: what each call does to one, and what it sends. C are commands, I their identities, M machines, R what they answer, A allocators.
use Rattle.std.specs.Prelude.{◌≡◌, ℕ, zero, suc, ◌+◌, ◌-◌, ◌<◌, ◌≤◌, nat_lt, nat_le, List, [], ◌∷◌, ◌++◌, length, map, Bool, true, false, ◌&&◌, Option, Some, None, is_some, is_none, IsSome, option_map, Result, OnOk, IfOk, IsErr, OnErr, if◌then◌else◌}
use Rattle.std.specs.List.{list_any, flat_map}
use Rattle.std.specs.Map.{lookup, set_value, remove_entry}
use Rattle.std.specs.BTreeMap.{insert_entry, is_at}
use Rattle.std.specs.Option.{option_map_or, option_flatten}
use Rattle.std.specs.Ordering.{is_eq}
use Rattle.std.specs.declared.cmp.Ordering.{Ordering}
use Rattle.ballot.specs.Sends.{Move, stays, followed_by, to_all}
use Rattle.ballot.specs.Slots.{at_slot, with_slot, without_slot}
use Rattle.ballot.specs.declared.memory.Memory.{Memory}
use Rattle.ballot.specs.declared.message.Message.TheVariants.{Propose, Ask}
use Rattle.ballot.specs.declared.outgoing.Outgoing.{Outgoing}
use Rattle.ballot.specs.declared.slot.TheConstants.{LAST_SLOT}

-- what a replica knows of the commands and of its machine
pub record Rules (C I R M : Type 0) : Type 0 where
  pub identity : C → I
  pub compare : I → I → Ordering
  pub answer_to : M → C → R
  pub after : M → C → M

abbrev pub rules_of : {C I R M : Type 0} → (C → I) → (I → I → Ordering) → (M → C → R) → (M → C → M) → Rules C I R M
rules_of identity compare answer after = record { identity = identity; compare = compare; answer_to = answer; after = after }

pub record ReplicaState (C I R M : Type 0) : Type 0 where
  -- its node, the size of the cluster, and how many slots it proposes for ahead of what is performed
  pub me : ℕ
  pub size : ℕ
  pub window : ℕ
  -- the next slot that it proposes for, and the next that it performs
  pub slot_in : ℕ
  pub slot_out : ℕ
  pub machine : M
  -- commands that wait for a slot, the first to be proposed first
  pub requests : List C
  -- what it proposed and what is decided, one command for a slot, in slot order
  pub proposals : List (ℕ × C)
  pub decisions : List (ℕ × C)
  -- what it has performed, each command with its slot
  pub performed : List (ℕ × C)
  -- the identities of commands that were requested here, in their order: each with its answer once it is performed, until that is taken
  pub awaited : List (I × Option R)

-- a call of a replica, none if it is spent: if it answers, the replica and the sends are those of the move, else it is spent
pub record IsMoved {C I R M A : Type 0} (move : ReplicaState C I R M → Move (ReplicaState C I R M) C A) (old new : Option (ReplicaState C I R M)) (result : Result (List (Outgoing C A)) Memory) : Type 0 where
  pub replica : OnOk result (new ≡ option_map (λ r. (move r).after) old)
  pub sends : (r : ReplicaState C I R M) → old ≡ Some r → IfOk result (λ sends. sends ≡ (move r).sends)
  pub spent : old ≡ None → IsErr result
  pub err : OnErr result (new ≡ None)

-- lists of what stands at slots
module _ {X : Type 0} where
  abbrev pub is_decided : ℕ → List (ℕ × X) → Bool
  is_decided s es = is_some (at_slot s es)

  -- what stands at the slots 1 to n, in slot order
  abbrev pub first_slots : ℕ → List (ℕ × X) → List (ℕ × X)
  first_slots zero es = []
  first_slots (suc n) es = first_slots n es ++ option_map_or (λ x. (suc n, x) ∷ []) (at_slot (suc n) es) []

  -- nothing stands at slot n or before it
  abbrev pub IsAhead : ℕ → List (ℕ × X) → Type 0
  IsAhead n es = (s : ℕ) → is_decided s es ≡ true → n < s

  -- nothing stands above the last slot
  abbrev pub AreSlots : List (ℕ × X) → Type 0
  AreSlots es = (s : ℕ) → IsSome (at_slot s es) → s ≤ LAST_SLOT

module _ {C I R M : Type 0} where
  -- before the first slot
  abbrev pub new_replica : ℕ → ℕ → ℕ → M → ReplicaState C I R M
  new_replica me size window machine = record {
    me = me;
    size = size;
    window = window;
    slot_in = 1;
    slot_out = 1;
    machine = machine;
    requests = [];
    proposals = [];
    decisions = [];
    performed = [];
    awaited = [];
  }

  -- whether the next slot to propose for is a slot, and inside the window
  abbrev pub is_open : ReplicaState C I R M → Bool
  is_open r = nat_lt r.slot_in (r.slot_out + r.window) && nat_le r.slot_in LAST_SLOT

  -- whether one of these requests can be proposed
  abbrev pub can_propose : List C → ReplicaState C I R M → Bool
  can_propose [] r = false
  can_propose (c ∷ cs) r = is_open r

  -- whether no slot is left to propose for
  abbrev pub slots_used : ReplicaState C I R M → Bool
  slots_used r = nat_lt LAST_SLOT r.slot_in

  -- whether a later slot than the next to perform is decided: there are more decisions than slots before it
  abbrev pub is_behind : ReplicaState C I R M → Bool
  is_behind r = nat_le r.slot_out (length r.decisions)

module _ {I R : Type 0} where
  -- whether an answer is awaited that isn't there
  abbrev pub is_waiting : List (I × Option R) → Bool
  is_waiting awaited = list_any is_none (map (λ e. e.1) awaited)

module _ {C I R M : Type 0} (rules : Rules C I R M) where
  -- whether one of these commands has the identity
  abbrev pub has_identity : I → List (ℕ × C) → Bool
  has_identity i ps = list_any (λ p. is_eq (rules.compare (rules.identity p.1) i)) ps

  -- those whose identity didn't come before, here or in `before`
  abbrev pub once : List (ℕ × C) → List (ℕ × C) → List (ℕ × C)
  once before [] = []
  once before (p ∷ ps) = if has_identity (rules.identity p.1) before then once before ps else p ∷ once (before ++ p ∷ []) ps

  -- the replica has performed the whole front of what was given: slot_out is the first slot for which nothing was given, and of the slots below it each command was performed once
  pub record IsFrontOf (given : List (ℕ × C)) (r : ReplicaState C I R M) : Type 0 where
    pub begins : 1 ≤ r.slot_out
    pub gapless : (s : ℕ) → 1 ≤ s → s < r.slot_out → is_decided s given ≡ true
    pub ends : is_decided r.slot_out given ≡ false
    pub performed : r.performed ≡ once [] (first_slots (r.slot_out - 1) given)

  -- what holds between calls: all that is decided without a gap is performed, and all that may be proposed is proposed
  pub record IsSettled (r : ReplicaState C I R M) : Type 0 where
    pub front : IsFrontOf r.decisions r
    pub rests : can_propose r.requests r ≡ false

  -- the answer that is held for the identity
  abbrev pub answer_for : I → List (I × Option R) → Option R
  answer_for i awaited = option_flatten (lookup (is_at (rules.compare i)) awaited)

  -- a requested command is awaited, unless its identity was performed
  abbrev pub awaiting : C → ReplicaState C I R M → ReplicaState C I R M
  awaiting c r =
      let more : List (I × Option R) = insert_entry rules.compare r.awaited (rules.identity c) None in
      record r { awaited = if has_identity (rules.identity c) r.performed then r.awaited else more }

  -- a decided command is performed in slot_out, unless its identity was performed; who awaits it has its answer
  abbrev pub performs : C → ReplicaState C I R M → ReplicaState C I R M
  performs c r =
      let passed : ReplicaState C I R M = record r { slot_out = r.slot_out + 1 } in
      if has_identity (rules.identity c) r.performed then passed else record passed {
        machine = rules.after r.machine c;
        performed = r.performed ++ (r.slot_out, c) ∷ [];
        awaited = set_value (is_at (rules.compare (rules.identity c))) r.awaited (Some (rules.answer_to r.machine c));
      }

  -- an own proposal for slot_out gives way to the decided command c: if its identity is another, it is the first request again
  abbrev pub gives_way : C → Option C → ReplicaState C I R M → ReplicaState C I R M
  gives_way c None r = r
  gives_way c (Some own) r =
      let same : Bool = is_eq (rules.compare (rules.identity own) (rules.identity c)) in
      let requests : List C = if same then r.requests else own ∷ r.requests in
      record r { proposals = without_slot r.slot_out r.proposals; requests = requests }

  -- n times: the next slot is performed, if it is decided
  abbrev pub performs_slots : ℕ → ReplicaState C I R M → ReplicaState C I R M
  performs_slots zero r = r
  performs_slots (suc n) r =
      let performed : C → ReplicaState C I R M = λ c. performs c (gives_way c (at_slot r.slot_out r.proposals) r) in
      performs_slots n (option_map_or performed (at_slot r.slot_out r.decisions) r)

module _ {C I R M A : Type 0} where
  -- the first request is proposed for slot_in, unless that slot is decided; the next slot is the next to propose for
  abbrev pub proposes_next : List C → ReplicaState C I R M → Move (ReplicaState C I R M) C A
  proposes_next [] r = stays r
  proposes_next (c ∷ cs) r =
      let passed : ReplicaState C I R M = record r { slot_in = r.slot_in + 1 } in
      let now : ReplicaState C I R M = record passed { requests = cs; proposals = with_slot r.slot_in c r.proposals } in
      let move : Move (ReplicaState C I R M) C A = record { after = now; sends = to_all r.size (Propose r.slot_in c) } in
      if is_open r then (if is_decided r.slot_in r.decisions then stays passed else move) else stays r

  -- n times
  abbrev pub proposes_slots : ℕ → ReplicaState C I R M → Move (ReplicaState C I R M) C A
  proposes_slots zero r = stays r
  proposes_slots (suc n) r = followed_by (proposes_next r.requests r) (proposes_slots n)

  -- as far as the window goes
  abbrev pub proposes : ReplicaState C I R M → Move (ReplicaState C I R M) C A
  proposes r = proposes_slots ((r.slot_out + r.window) - r.slot_in) r

  -- an own proposal is sent again, unless its slot is decided
  abbrev pub proposal_again : ReplicaState C I R M → ℕ × C → List (Outgoing C A)
  proposal_again r p = if is_decided p.0 r.decisions then [] else to_all r.size (Propose p.0 p.1)

  -- the next slot to perform is asked for
  abbrev pub asks : ReplicaState C I R M → List (Outgoing C A)
  asks r = if nat_le r.slot_out LAST_SLOT then to_all r.size (Ask r.slot_out) else []

  -- Tick
  abbrev pub replica_ticks : ReplicaState C I R M → Move (ReplicaState C I R M) C A
  replica_ticks r = record { after = r; sends = flat_map (proposal_again r) r.proposals ++ asks r }

module _ {C I R M A : Type 0} (rules : Rules C I R M) where
  -- a request: its answer is awaited, and it waits for a slot after the others
  abbrev pub requested : C → ReplicaState C I R M → Move (ReplicaState C I R M) C A
  requested c r = proposes (record (awaiting rules c r) { requests = r.requests ++ c ∷ [] })

  -- a decision: it is kept, unless its slot has one, what is decided from slot_out on is performed, and requests are proposed
  abbrev pub learns : ℕ → C → ReplicaState C I R M → Move (ReplicaState C I R M) C A
  learns s c r =
      let known : List (ℕ × C) = if is_decided s r.decisions then r.decisions else with_slot s c r.decisions in
      proposes (performs_slots rules (length known) (record r { decisions = known }))

module _ {C I R M : Type 0} (rules : Rules C I R M) where
  -- an answer is taken
  abbrev pub without_answer : I → Option R → ReplicaState C I R M → ReplicaState C I R M
  without_answer i None r = r
  without_answer i (Some answer) r = record r { awaited = remove_entry (is_at (rules.compare i)) r.awaited }

  abbrev pub taken : I → ReplicaState C I R M → ReplicaState C I R M
  taken i r = without_answer i (answer_for rules i r.awaited) r
