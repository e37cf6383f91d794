-- What is written of the outcomes of Mails and Breaks.
use Rattle.std.specs.Prelude.{List, [], ◌∷◌, Option, Some, None}
use Rattle.std.specs.Map.{keys_of}
use Rattle.maildrop.specs.CommandId.{CommandId}
use Rattle.maildrop.specs.declared.outcome.Outcome.{Outcome}
use Rattle.script.specs.Output.{outcome_line}
use Rattle.runs.specs.Worlds.{World, outcome_left, without_outcome}
use Rattle.simulator.specs.Told.{Told, followed, silent}

module _ {A : Type 0} where
  abbrev pub outcome_by : Option (Outcome A) → CommandId → World A → Told (World A)
  outcome_by None id w = silent w
  outcome_by (Some outcome) id w = record { state = without_outcome w id; text = outcome_line id.user id.ticket outcome }

  -- the outcome of a Mail or a Break, if it is there and wasn't told
  abbrev pub outcome_told : CommandId → World A → Told (World A)
  outcome_told id w = outcome_by (outcome_left w id) id w

  abbrev pub outcomes_told : List CommandId → World A → Told (World A)
  outcomes_told [] w = silent w
  outcomes_told (id ∷ ids) w = followed (outcome_told id w) (outcomes_told ids)

  -- each outcome that is there and wasn't told, in the order in which the service was given the Mails and Breaks
  abbrev pub all_outcomes : World A → Told (World A)
  all_outcomes w = outcomes_told (keys_of w.operations) w
