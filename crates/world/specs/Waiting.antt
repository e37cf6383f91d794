-- Which sessions' answers may be there, as far as a world has looked.
use Rattle.std.specs.Prelude.{◌≡◌, ◌⊎◌, ℕ, suc, ◌<◌, ◌≤◌, ◌==◌, Bool, true, List, Option, Some, None, is_some, length, drop, slice_get}
use Rattle.std.specs.BTreeMap.{is_at}
use Rattle.std.specs.BTreeSet.{BTreeSet, contains}
use Rattle.std.specs.List.{position_or_len}
use Rattle.std.specs.Map.{keys_of, lookup}
use Rattle.std.specs.Ordering.{nat_cmp}
use Rattle.maildrop.specs.CommandId.{CommandId, compare_ids}
use Rattle.node.specs.Nodes.{answered}
use Rattle.node.specs.Replay.{mail_rules, replayed}
use Rattle.node.specs.declared.log.NodeLog.{NodeLog}
use Rattle.replica.specs.Replicas.{has_identity}
use Rattle.world.specs.Connections.{awaited_by}
use Rattle.world.specs.Hosts.{Hosts, network_of}
use Rattle.runs.specs.Messages.{log_of, is_up}
use Rattle.world.specs.declared.connection.Connection.{Connection}

pub record Waiting : Type 0 where
  -- the commands whose answers weren't there, each with the place of the session that awaits it
  pub commands : List (CommandId × ℕ)
  -- the places of the sessions whose answers may be there
  pub places : BTreeSet ℕ
  -- whether no place is missing
  pub is_whole : Bool
  -- of how many performed commands of each node it was looked who awaits them
  pub heard : List ℕ

-- the answer that the session at this place awaits may be there
abbrev pub MayHave : Waiting → ℕ → Type 0
MayHave w place = w.is_whole ≡ true → contains nat_cmp w.places place ≡ true

-- it may be there, or its command is one that is looked for
abbrev pub IsWatched : Waiting → ℕ → CommandId → Type 0
IsWatched w place id = MayHave w place ⊎ (lookup (is_at (compare_ids id)) w.commands ≡ Some place)

-- what was looked for, and what may be there, is later too, but for what one session awaits, if it is about one
pub record WatchesBut (but : ℕ → Type 0) (w later : Waiting) : Type 0 where
  pub watched : (place : ℕ) (id : CommandId) → (but place → ⊥) → IsWatched w place id → IsWatched later place id
  pub may : (place : ℕ) → (but place → ⊥) → MayHave w place → MayHave later place
  pub heard : later.heard ≡ w.heard

-- no place, and one
abbrev pub nowhere : ℕ → Type 0
nowhere place = ⊥

abbrev pub only_at : ℕ → ℕ → Type 0
only_at place other = other ≡ place

-- no answer from one place up to another may be there
pub record NoneMay (w : Waiting) (from to : ℕ) : Type 0 where
  pub each : (place : ℕ) → from ≤ place → place < to → MayHave w place → ⊥

-- none from this place on may
pub record NoneMayFrom (w : Waiting) (from : ℕ) : Type 0 where
  pub each : (place : ℕ) → from ≤ place → MayHave w place → ⊥

-- the connections by their sessions' numbers, in the order in which they connected
pub record Sessions (A : Type 0) : Type 0 where
  pub entries : List (ℕ × Connection A)
  pub waiting : Waiting

module _ {A : Type 0} where
  -- where the session stands; after all if it isn't there
  abbrev pub place_of : ℕ → List (ℕ × Connection A) → ℕ
  place_of session entries = position_or_len (λ s. session == s) (keys_of entries)

  -- all but one session are as they were
  pub record KeepsOthers (session : ℕ) (old new : List (ℕ × Connection A)) : Type 0 where
    pub each : (place : ℕ) (e : ℕ × Connection A) → slice_get new place ≡ Some e → (place_of session new ≡ place → ⊥) → slice_get old place ≡ Some e

  -- all sessions but the one that an event is about are as they were
  abbrev pub KeepsOthersOf : Option ℕ → (old new : List (ℕ × Connection A)) → Type 0
  KeepsOthersOf None old new = new ≡ old
  KeepsOthersOf (Some session) old new = KeepsOthers session old new

  -- the place is that of the session, if there is one
  abbrev pub is_of : Option ℕ → List (ℕ × Connection A) → ℕ → Type 0
  is_of None entries place = ⊥
  is_of (Some session) entries place = place_of session entries ≡ place

  -- the command is one that its node has performed since it was looked at
  pub record IsUnheard (hosts : Hosts A) (w : Waiting) (id : CommandId) : Type 0 where
    pub node : ℕ
    pub its : id.ticket.node ≡ suc node
    pub log : NodeLog A
    pub at : slice_get (network_of hosts).logs node ≡ Some log
    pub up : is_up (Some log) ≡ true
    pub count : ℕ
    pub heard : slice_get w.heard node ≡ Some count
    pub among : has_identity mail_rules id (drop count (replayed log).replica.performed) ≡ true

  -- each session but some is watched, and if its answer is there that may be, or its command is still unheard
  pub record IsBehind (but : ℕ → Type 0) (hosts : Hosts A) (entries : List (ℕ × Connection A)) (w : Waiting) : Type 0 where
    pub nodes : length w.heard ≡ length (network_of hosts).logs
    pub watched : (place : ℕ) (e : ℕ × Connection A) (id : CommandId) → slice_get entries place ≡ Some e → (but place → ⊥) → awaited_by e.1.standing ≡ Some id → IsWatched w place id
    pub there : (place : ℕ) (e : ℕ × Connection A) (id : CommandId) (log : NodeLog A) → slice_get entries place ≡ Some e → (but place → ⊥) → awaited_by e.1.standing ≡ Some id
        → log_of e.1.node (network_of hosts).logs ≡ Some log → is_up (Some log) ≡ true → is_some (answered log id) ≡ true → MayHave w place ⊎ IsUnheard hosts w id

  -- all that a node which is up has performed was heard
  abbrev pub IsHeard : Hosts A → Waiting → ℕ → Type 0
  IsHeard hosts w node = (log : NodeLog A) → slice_get (network_of hosts).logs node ≡ Some log → is_up (Some log) ≡ true → slice_get w.heard node ≡ Some (length (replayed log).replica.performed)

  -- each session that awaits an answer is watched, and if that is there, it may be; all that nodes have performed was heard
  pub record IsUpToDate (hosts : Hosts A) (entries : List (ℕ × Connection A)) (w : Waiting) : Type 0 where
    pub nodes : length w.heard ≡ length (network_of hosts).logs
    pub watched : (place : ℕ) (e : ℕ × Connection A) (id : CommandId) → slice_get entries place ≡ Some e → awaited_by e.1.standing ≡ Some id → IsWatched w place id
    pub there : (place : ℕ) (e : ℕ × Connection A) (id : CommandId) (log : NodeLog A) → slice_get entries place ≡ Some e → awaited_by e.1.standing ≡ Some id
        → log_of e.1.node (network_of hosts).logs ≡ Some log → is_up (Some log) ≡ true → is_some (answered log id) ≡ true → MayHave w place
    pub heard : (node : ℕ) → IsHeard hosts w node
