-- Commands of all users that are taken one after another, and what is added of them.
use Rattle.std.specs.Prelude.{ℕ, Bool, false, List, [], ◌∷◌, ◌++◌, map, filter, Option, option_map}
use Rattle.std.specs.Option.{option_map_or, option_to_list}
use Rattle.std.specs.Str.{bytes_eq}
use Rattle.maildrop.specs.Changes.{change_in}
use Rattle.maildrop.specs.Kept.{KeptTable}
use Rattle.maildrop.specs.Limits.{Limits}
use Rattle.maildrop.specs.Maildrop.{Maildrop}
use Rattle.maildrop.specs.Office.{User, opened_user, users_after}
use Rattle.maildrop.specs.declared.change.Change.{Change}
use Rattle.maildrop.specs.declared.command.Command.{Command}
use Rattle.ledger.specs.declared.entry.Entry.{Entry}
use Rattle.ledger.specs.Changes.{written_of}
use Rattle.ledger.specs.Payloads.{payload, entry}

-- the maildrops after the commands that were taken
pub record LedgerState (A : Type 0) : Type 0 where
  pub users : List (User A)
  -- how many commands were taken
  pub taken : ℕ
  -- whether a command could not be taken: then no other is
  pub has_failed : Bool

-- a command, and the slot in which it was decided
pub record Decided (A : Type 0) : Type 0 where
  pub slot : ℕ
  pub command : Command A

module _ {A : Type 0} where
  -- a ledger that has taken nothing
  abbrev pub opened_ledger : Limits → ℕ → KeptTable A → List (List ℕ) → LedgerState A
  opened_ledger limits keys kept names = record { users = map (opened_user limits keys kept) names; taken = 0; has_failed = false }

  -- what is added of a command, if it changes anything
  abbrev pub entry_in_slot : List (User A) → ℕ → Command A → Option (Entry A)
  entry_in_slot users slot c = option_map (λ change. entry slot c.user change) (change_in users c)

  -- its payload, or no bytes
  abbrev pub entry_bytes : Option (Entry A) → List ℕ
  entry_bytes entry = option_map_or (λ e. payload e.slot e.name e.change) entry []

  -- what is added of commands, one after another
  abbrev pub entries_of : List (User A) → List (Decided A) → List (Entry A)
  entries_of users [] = []
  entries_of users (d ∷ ds) = option_to_list (entry_in_slot users d.slot d.command) ++ entries_of (users_after users d.command) ds

  abbrev pub commands_in : List (Decided A) → List (Command A)
  commands_in decided = map (λ d. d.command) decided

  -- the changes of the maildrop with this name
  abbrev pub changes_for : List ℕ → List (Entry A) → List (Change A)
  changes_for name entries = map (λ e. e.change) (filter (λ e. bytes_eq e.name name) entries)

  -- what is written of commands, if there is a maildrop
  abbrev pub written_at : Option (Maildrop A) → List (Command A) → List (Change A)
  written_at maildrop commands = option_map_or (λ m. written_of m commands) maildrop []
