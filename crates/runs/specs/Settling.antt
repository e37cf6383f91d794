-- What contracts say of a world that takes one event after another.
use Rattle.std.specs.Prelude.{◌≡◌, ℕ, ◌<◌, List, [], ◌∷◌, map, fold, Option, Some, None}
use Rattle.std.specs.Option.{option_or}
use Rattle.maildrop.specs.declared.command.Command.{Command}
use Rattle.node.specs.Replay.{replayed}
use Rattle.runs.specs.Interrupted.{IsInterrupted}
use Rattle.runs.specs.Refusals.{step_refusal}
use Rattle.runs.specs.Services.{Service}
use Rattle.runs.specs.Worlds.{World, next_oldest, settled, stepped}
use Rattle.runs.specs.declared.event.Event.{Event}
use Rattle.runs.specs.declared.refused.Refused.{Refused}

module _ {A : Type 0} where
  -- so many events came next in turn, fewer than were allowed, and at the next one there was no memory
  pub record IsSettleCut (limit : ℕ) (old new : World A) : Type 0 where
    pub events : ℕ
    pub before : World A
    pub event : Event A
    pub within : events < limit
    pub so_far : settled events old ≡ record { events = events; world = before }
    pub next : next_oldest before.service 0 ≡ Some event
    pub interrupted : IsInterrupted before.config event before.service new.service
    pub operations : new.operations ≡ before.operations
    pub config : new.config ≡ before.config

  -- after these events
  abbrev pub ran : World A → List (Event A) → World A
  ran w events = fold stepped w events

  -- why the first of these events that is refused is refused, if one is
  abbrev pub first_refusal : World A → List (Event A) → Option Refused
  first_refusal w [] = None
  first_refusal w (e ∷ es) = option_or (step_refusal w.config w.service e) (first_refusal (stepped w e) es)

  -- the replies of each session, in the order in which they connected
  abbrev pub all_replies : Service A → List (ℕ × List ℕ)
  all_replies w = map (λ c. (c.0, c.1.replies)) w.clients

  -- what each node has performed, each command with its slot, in the order of the nodes' numbers
  abbrev pub all_performed : Service A → List (List (ℕ × Command A))
  all_performed w = map (λ log. (replayed log).replica.performed) w.network.logs
