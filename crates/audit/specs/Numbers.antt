-- The tickets that the node of a log gives, by the log alone.
use Rattle.std.specs.Prelude.{◌≡◌, ◌<◌, ℕ, zero, suc, length, List, Bool, false, Option, Some, None, slice_get, take, ◌&&◌, ◌||◌}
use Rattle.std.specs.Map.{lookup}
use Rattle.maildrop.specs.CommandId.{CommandId, same_id}
use Rattle.maildrop.specs.Ticket.{Ticket}
use Rattle.node.specs.Replay.{ticket_of}
use Rattle.node.specs.declared.input.Input.{Input}
use Rattle.node.specs.declared.log.NodeLog.{NodeLog}
use Rattle.audit.specs.Replays.{key_of, same_submit}

abbrev pub is_id : CommandId → Option CommandId → Bool
is_id id None = false
is_id id (Some given) = same_id id given

module _ {A : Type 0} where
  -- the first inputs of a log
  abbrev pub front : NodeLog A → ℕ → NodeLog A
  front log k = record { opening = log.opening; inputs = take k log.inputs }

  abbrev pub submits_it : NodeLog A → CommandId → Input A → Option (Input A) → Bool
  submits_it before id x None = false
  submits_it before id x (Some y) = is_id id (key_of (Some before) y) && same_submit y x

  -- one of the first inputs is the Submit x, and gets this identity
  abbrev pub submitted_by : NodeLog A → CommandId → Input A → ℕ → Bool
  submitted_by log id x zero = false
  submitted_by log id x (suc k) = submits_it (front log k) id x (slice_get log.inputs k) || submitted_by log id x k

  abbrev pub same_at : Input A → Option (Input A) → Bool
  same_at x None = false
  same_at x (Some y) = same_submit y x

  -- the input at the place that was found is x
  abbrev pub found_at : NodeLog A → Input A → Option ℕ → Bool
  found_at log x None = false
  found_at log x (Some k) = same_at x (slice_get log.inputs k)

  -- the tickets of the first inputs, and where each identity was given
  pub record AreNumbered (log : NodeLog A) (k : ℕ) (tickets : List (Option Ticket)) (places : List (CommandId × ℕ)) : Type 0 where
    pub count : length tickets ≡ k
    pub each : (j : ℕ) (x : Input A) → j < k → slice_get log.inputs j ≡ Some x → slice_get tickets j ≡ Some (ticket_of (front log j) x)
    pub found : (id : CommandId) (x : Input A) → found_at log x (lookup (same_id id) places) ≡ submitted_by log id x k
