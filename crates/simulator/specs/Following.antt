-- Which outcomes of Mails and Breaks may be there, as far as it was looked. Only private contracts cite this.
use Rattle.std.specs.Prelude.{◌≡◌, ◌⊎◌, ℕ, suc, ◌≤◌, Bool, true, false, List, Some, is_some, length, drop, slice_get}
use Rattle.std.specs.Map.{keys_of, lookup}
use Rattle.maildrop.specs.CommandId.{CommandId, same_id}
use Rattle.node.specs.Replay.{mail_rules, replayed}
use Rattle.node.specs.declared.log.NodeLog.{NodeLog}
use Rattle.replica.specs.Replicas.{has_identity}
use Rattle.runs.specs.Services.{Service}
use Rattle.runs.specs.Worlds.{World, IsReached, outcome_left}
use Rattle.world.specs.Kept.{IsGiven}
use Rattle.world.specs.Waiting.{Waiting, MayHave, IsWatched}

module _ {A : Type 0} where
  -- the outcome of the command is there: it wasn't taken, and its node is up and has it
  abbrev pub is_there : World A → CommandId → Bool
  is_there w id = is_some (outcome_left w id)

  -- the command is among those that its node has performed since they were looked at
  pub record IsUnheard (w : Service A) (waiting : Waiting) (id : CommandId) : Type 0 where
    pub node : ℕ
    pub its : id.ticket.node ≡ suc node
    pub log : NodeLog A
    pub at : slice_get w.network.logs node ≡ Some log
    pub count : ℕ
    pub heard : slice_get waiting.heard node ≡ Some count
    pub among : has_identity mail_rules id (drop count (replayed log).replica.performed) ≡ true

  -- These are the Mails and Breaks that the service was given, in order, each once. Each whose outcome wasn't taken is watched
  -- at its place; if its outcome is there, that may be there, or its command is unheard.
  pub record IsFollowed (w : World A) (ids : List CommandId) (waiting : Waiting) : Type 0 where
    pub reached : IsReached w.config w.service
    pub all : ids ≡ keys_of w.operations
    pub given : (k : ℕ) (id : CommandId) → slice_get ids k ≡ Some id → IsGiven w.service id
    pub distinct : (j k : ℕ) (id : CommandId) → slice_get ids j ≡ Some id → slice_get ids k ≡ Some id → j ≡ k
    pub nodes : length waiting.heard ≡ length w.service.network.logs
    pub few : length waiting.heard ≤ 9
    pub within : (node count : ℕ) (log : NodeLog A) → slice_get waiting.heard node ≡ Some count → slice_get w.service.network.logs node ≡ Some log → count ≤ length (replayed log).replica.performed
    pub watched : (k : ℕ) (id : CommandId) → slice_get ids k ≡ Some id → lookup (same_id id) w.operations ≡ Some false → IsWatched waiting k id
    pub there : (k : ℕ) (id : CommandId) → slice_get ids k ≡ Some id → is_there w id ≡ true → MayHave waiting k ⊎ IsUnheard w.service waiting id

  -- what this node has performed was heard: if an outcome is there that it has, that may be there
  abbrev pub IsHeard : World A → List CommandId → Waiting → ℕ → Type 0
  IsHeard w ids waiting node = (k : ℕ) (id : CommandId) → slice_get ids k ≡ Some id → id.ticket.node ≡ node → is_there w id ≡ true → MayHave waiting k

  -- each outcome that is there may be there
  abbrev pub IsCurrent : World A → List CommandId → Waiting → Type 0
  IsCurrent w ids waiting = (k : ℕ) (id : CommandId) → slice_get ids k ≡ Some id → is_there w id ≡ true → MayHave waiting k
