-- The nodes of logs, as inputs come to them.
use Rattle.std.specs.Prelude.{◌≡◌, ℕ, List, [], Bool, true, false, Option, Some, None, slice_get, ◌&&◌, if◌then◌else◌}
use Rattle.std.specs.List.{list_any}
use Rattle.maildrop.specs.CommandId.{CommandId}
use Rattle.maildrop.specs.declared.outcome.Outcome.{Outcome}
use Rattle.node.specs.Nodes.{NodeValue, answer_of, answered, logged}
use Rattle.node.specs.Replay.{is_crash}
use Rattle.node.specs.declared.input.Input.{Input}
use Rattle.node.specs.declared.input.Input.TheVariants.{Crash}
use Rattle.node.specs.declared.log.NodeLog.{NodeLog}
use Rattle.node.specs.declared.log.Opening.{Opening}
use Rattle.node.specs.declared.stopped.Stopped.{Stopped}
use Rattle.audit.specs.Records.{is_fit}
use Rattle.audit.specs.Replays.{Replay}

-- how many inputs came to the node of a log, and what they lead to
pub record Replayed (A : Type 0) : Type 0 where
  pub state : Replay A
  pub placed : ℕ

module _ {A : Type 0} where
  -- a node takes no crash itself, so that its answers can still be asked for
  abbrev pub log_shown : Bool → NodeLog A → NodeLog A
  log_shown true log = logged log Crash
  log_shown false log = log

  -- none once it has stopped, which is out of memory
  abbrev pub unless_stopped : Option Stopped → NodeLog A → Replay A
  unless_stopped None log = Some log
  unless_stopped (Some stop) log = None

  abbrev pub state_shown : Option (NodeValue A) → Bool → Replay A
  state_shown None crashed = None
  state_shown (Some node) crashed = unless_stopped node.stopped (log_shown crashed node.log)

  abbrev pub is_plain : Input A → Bool
  is_plain Crash = false
  is_plain _ = true

  -- a node that runs, and all answers of its log are there
  pub record Runs (node : NodeValue A) : Type 0 where
    pub up : node.stopped ≡ None
    pub uncrashed : list_any is_crash node.log.inputs ≡ false
    pub answers : (id : CommandId) → answer_of id node.awaited ≡ answered node.log id

  abbrev pub RunsUnlessStopped : Option (NodeValue A) → Type 0
  RunsUnlessStopped None = Unit {0}
  RunsUnlessStopped (Some node) = node.stopped ≡ None → Runs node

  -- the answers that weren't taken
  abbrev pub answers_left : Option (NodeValue A) → CommandId → Option (Outcome A)
  answers_left None id = None
  answers_left (Some node) id = answer_of id node.awaited

  -- the node of a log before its first input, if it is the first log of the node
  abbrev pub begun : Bool → Opening A → Replay A
  begun first opening = if is_fit opening && first then Some (record { opening = opening; inputs = [] }) else None

  abbrev pub count_at : Option (Replayed A) → ℕ
  count_at None = 0
  count_at (Some r) = r.placed

  -- how many inputs of each log came
  abbrev pub counts_of : List (Replayed A) → ℕ → ℕ
  counts_of rs n = count_at (slice_get rs n)
