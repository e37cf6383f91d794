-- What is written of a user's commands: what they change of the user's maildrop, but for its lock and its limits.
use Rattle.std.specs.Prelude.{ℕ, List, [], ◌∷◌, ◌++◌, map, Some, None}
use Rattle.std.specs.Option.{option_to_list}
use Rattle.maildrop.specs.Changes.{change_of, changed}
use Rattle.maildrop.specs.Kept.{KeptMaildrop, IsConsistent}
use Rattle.maildrop.specs.Limits.{Limits}
use Rattle.maildrop.specs.Maildrop.{Maildrop, opened, closed}
use Rattle.maildrop.specs.Office.{outcome_at, outcomes_at, ids_given}
use Rattle.maildrop.specs.Reopening.{Step, Performs, Reopens, after_step, after_steps}
use Rattle.maildrop.specs.declared.command.Command.{Command}
use Rattle.maildrop.specs.declared.message.Message.{Message}
use Rattle.maildrop.specs.declared.op.Op.{Op}
use Rattle.maildrop.specs.declared.outcome.Outcome.{Outcome}
use Rattle.maildrop.specs.declared.change.Change.{Change}
use Rattle.maildrop.specs.declared.change.Change.TheVariants.{Stored, Removed, Keyed, Next}

-- a user's maildrop in one epoch: how it opens, and the user's commands that are performed then
pub record Epoch (A : Type 0) : Type 0 where
  pub limits : Limits
  -- how many of the last keys it opens with
  pub keys : ℕ
  pub commands : List (Command A)

-- what a file has of an epoch: how a maildrop opened, and what is written of the commands
pub record Segment (A : Type 0) : Type 0 where
  pub limits : Limits
  pub keys : ℕ
  pub changes : List (Change A)

module _ {A : Type 0} where
  -- what is written of an operation on a maildrop: its change, if it has one
  abbrev pub changes_of : Maildrop A → Op A → List (Change A)
  changes_of maildrop op = option_to_list (change_of maildrop op)

  -- what is kept of a maildrop after changes that are read, one after another
  abbrev pub changed_by : KeptMaildrop A → List (Change A) → KeptMaildrop A
  changed_by kept [] = kept
  changed_by kept (change ∷ changes) = changed_by (changed kept change) changes

  -- commands as steps of a maildrop
  abbrev pub performing : List (Command A) → List (Step A)
  performing commands = map (λ c. Performs c) commands

  -- what is written of commands, one after another
  abbrev pub written_of : Maildrop A → List (Command A) → List (Change A)
  written_of maildrop [] = []
  written_of maildrop (c ∷ cs) = changes_of maildrop c.op ++ written_of (after_step maildrop (Performs c)) cs

  -- the unique ids of the messages that are stored by changes
  abbrev pub stored_by : Change A → List ℕ
  stored_by (Stored uid text key) = uid ∷ []
  stored_by (Removed uids) = []
  stored_by (Keyed key uid) = []
  stored_by (Next uid) = []

  abbrev pub stored_in : List (Change A) → List ℕ
  stored_in [] = []
  stored_in (change ∷ changes) = stored_by change ++ stored_in changes

  abbrev pub message_change : Message A → Change A
  message_change message = Stored message.uid message.text None

  abbrev pub key_change : List ℕ × ℕ → Change A
  key_change entry = Keyed entry.0 entry.1

  -- what is kept is consistent, and so it is after each of these changes
  abbrev pub StaysConsistent : KeptMaildrop A → List (Change A) → Type 0
  StaysConsistent kept [] = IsConsistent kept
  StaysConsistent kept (change ∷ changes) = IsConsistent kept × StaysConsistent (changed kept change) changes

  -- A snapshot: the changes by which a maildrop comes from nothing. The next unique id comes before the keys, so that there
  -- are always fewer keys than that.
  abbrev pub snapshot_of : KeptMaildrop A → List (Change A)
  snapshot_of kept = map message_change kept.messages ++ Next kept.next_uid ∷ map key_change kept.keys

  -- the maildrop with which an epoch begins, if this was kept
  abbrev pub opening_of : KeptMaildrop A → Epoch A → Maildrop A
  opening_of kept epoch = opened epoch.limits epoch.keys kept

  -- what is kept after an epoch, and after epochs, one after another
  abbrev pub kept_after : KeptMaildrop A → Epoch A → KeptMaildrop A
  kept_after kept epoch = closed (after_steps (opening_of kept epoch) (performing epoch.commands))

  abbrev pub opening_after : KeptMaildrop A → List (Epoch A) → KeptMaildrop A
  opening_after kept [] = kept
  opening_after kept (epoch ∷ epochs) = opening_after (kept_after kept epoch) epochs

  -- what is written in an epoch, and in epochs
  abbrev pub segment_of : KeptMaildrop A → Epoch A → Segment A
  segment_of kept epoch = record { limits = epoch.limits; keys = epoch.keys; changes = written_of (opening_of kept epoch) epoch.commands }

  abbrev pub file_of : KeptMaildrop A → List (Epoch A) → List (Segment A)
  file_of kept [] = []
  file_of kept (epoch ∷ epochs) = segment_of kept epoch ∷ file_of (kept_after kept epoch) epochs

  -- what is kept after segments that are read, one after another
  abbrev pub read_segment : KeptMaildrop A → Segment A → KeptMaildrop A
  read_segment kept segment = changed_by (closed (opened segment.limits segment.keys kept)) segment.changes

  abbrev pub read_file : KeptMaildrop A → List (Segment A) → KeptMaildrop A
  read_file kept [] = kept
  read_file kept (segment ∷ segments) = read_file (read_segment kept segment) segments

  -- the steps of one maildrop through all epochs
  abbrev pub joined : List (Epoch A) → List (Step A)
  joined [] = []
  joined (epoch ∷ epochs) = Reopens epoch.limits epoch.keys ∷ (performing epoch.commands ++ joined epochs)

  -- the outcomes of the commands of all epochs, each beginning with what was kept
  abbrev pub outcomes_by_epochs : KeptMaildrop A → List (Epoch A) → List (Outcome A)
  outcomes_by_epochs kept [] = []
  outcomes_by_epochs kept (epoch ∷ epochs) =
      outcomes_at (Some (opening_of kept epoch)) epoch.commands ++ outcomes_by_epochs (kept_after kept epoch) epochs

  -- the outcomes of the commands among the steps of one maildrop
  abbrev pub outcomes_in_steps : Maildrop A → List (Step A) → List (Outcome A)
  outcomes_in_steps maildrop [] = []
  outcomes_in_steps maildrop (Performs c ∷ steps) = outcome_at (Some maildrop) c ∷ outcomes_in_steps (after_step maildrop (Performs c)) steps
  outcomes_in_steps maildrop (Reopens limits keys ∷ steps) = outcomes_in_steps (after_step maildrop (Reopens limits keys)) steps

  -- the unique ids that are given in all epochs
  abbrev pub ids_by_epochs : KeptMaildrop A → List (Epoch A) → List ℕ
  ids_by_epochs kept [] = []
  ids_by_epochs kept (epoch ∷ epochs) =
      ids_given (opening_of kept epoch) epoch.commands ++ ids_by_epochs (kept_after kept epoch) epochs

  -- and those that a file has
  abbrev pub ids_in_file : List (Segment A) → List ℕ
  ids_in_file [] = []
  ids_in_file (segment ∷ segments) = stored_in segment.changes ++ ids_in_file segments
