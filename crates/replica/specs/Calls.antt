-- Calls of a replica, one after another, and what holds after them.
use Rattle.std.specs.Prelude.{◌≡◌, ℕ, ◌≤◌, List, [], ◌∷◌, ◌++◌, Bool, false, Option, Some, None, if◌then◌else◌}
use Rattle.std.specs.List.{list_any}
use Rattle.std.specs.Map.{lookup}
use Rattle.std.specs.BTreeMap.{is_at}
use Rattle.std.specs.Ordering.{is_eq}
use Rattle.std.specs.declared.cmp.Ordering.TheVariants.{Less}
use Rattle.replica.specs.Replicas.{Rules, ReplicaState, requested, learns, replica_ticks, taken, has_identity}
use Rattle.ballot.specs.Sends.{Move, stays}

pub data Call (C I : Type 0) : Type 0 where
  Requests : (command : C) → Call C I
  Decides : (slot : ℕ) → (command : C) → Call C I
  Ticks : Call C I
  Takes : (identity : I) → Call C I

module _ {C I : Type 0} where
  -- the decisions that the calls give, in their order
  abbrev pub given_by : Call C I → List (ℕ × C)
  given_by (Decides slot command) = (slot, command) ∷ []
  given_by _ = []

  abbrev pub given : List (Call C I) → List (ℕ × C)
  given [] = []
  given (call ∷ calls) = given_by call ++ given calls

module _ {C I R M A : Type 0} (rules : Rules C I R M) where
  abbrev pub called : Call C I → ReplicaState C I R M → Move (ReplicaState C I R M) C A
  called (Requests command) r = requested rules command r
  called (Decides slot command) r = learns rules slot command r
  called Ticks r = replica_ticks r
  called (Takes identity) r = stays (taken rules identity r)

-- whether one of these calls requests a command of the identity
module _ {C I R M : Type 0} (rules : Rules C I R M) where
  abbrev pub is_request_of : I → Call C I → Bool
  is_request_of i (Requests command) = is_eq (rules.compare (rules.identity command) i)
  is_request_of i _ = false

  abbrev pub is_requested : I → List (Call C I) → Bool
  is_requested i calls = list_any (is_request_of i) calls

-- the replica after all these calls
module _ {C I R M : Type 0} (A : Type 0) (rules : Rules C I R M) where
  abbrev pub all_called : List (Call C I) → ReplicaState C I R M → ReplicaState C I R M
  all_called [] r = r
  all_called (call ∷ calls) r = all_called calls (called {A = A} rules call r).after

-- `later` has performed what `early` has, and maybe more after it
pub record IsBehind {C I R M : Type 0} (early later : ReplicaState C I R M) : Type 0 where
  pub slot_out : early.slot_out ≤ later.slot_out
  pub more : List (ℕ × C)
  pub performed : later.performed ≡ early.performed ++ more

-- an answer is there for whoever awaits it
abbrev pub answered_with : {R : Type 0} → Option R → Option (Option R) → Option (Option R)
answered_with answer None = None
answered_with answer (Some None) = Some answer
answered_with answer (Some (Some old)) = Some (Some old)

module _ {C I R M : Type 0} (rules : Rules C I R M) where
  -- the machine after these commands, one after another
  abbrev pub after_all : M → List (ℕ × C) → M
  after_all m [] = m
  after_all m (p ∷ ps) = after_all (rules.after m p.1) ps

  -- the answer to the command of the identity, the machine having performed the commands before it
  abbrev pub answer_among : I → M → List (ℕ × C) → Option R
  answer_among i m [] = None
  answer_among i m (p ∷ ps) = if is_eq (rules.compare (rules.identity p.1) i) then Some (rules.answer_to m p.1) else answer_among i (rules.after m p.1) ps

  -- what is awaited for the identity: nothing, or an answer that isn't there yet, or that is
  abbrev pub awaited_for : I → ReplicaState C I R M → Option (Option R)
  awaited_for i r = lookup (is_at (rules.compare i)) r.awaited

  -- the identities ascend
  abbrev pub AreAbove : I → List (I × Option R) → Type 0
  AreAbove i [] = Unit {0}
  AreAbove i (e ∷ es) = (rules.compare i e.0 ≡ Less) × AreAbove i es

  abbrev pub Ascend : List (I × Option R) → Type 0
  Ascend [] = Unit {0}
  Ascend (e ∷ es) = AreAbove e.0 es × Ascend es

  -- what holds of the answers of a replica whose machine was `first`, whatever was called: what is awaited without an answer isn't performed, and an answer is the machine's, after the commands performed before
  pub record AreAnswers (first : M) (r : ReplicaState C I R M) : Type 0 where
    pub machine : r.machine ≡ after_all first r.performed
    pub ordered : Ascend r.awaited
    pub waiting : (i : I) → awaited_for i r ≡ Some None → has_identity rules i r.performed ≡ false
    pub answered : (i : I) (answer : R) → awaited_for i r ≡ Some (Some answer) → answer_among i first r.performed ≡ Some answer

  -- what a call performs, and the answers that it adds: those of the commands that it performs and that are awaited
  pub record Performs (r new : ReplicaState C I R M) : Type 0 where
    pub more : List (ℕ × C)
    pub performed : new.performed ≡ r.performed ++ more
    pub machine : new.machine ≡ after_all r.machine more
    pub answers : (i : I) → awaited_for i new ≡ answered_with (answer_among i r.machine more) (awaited_for i r)
