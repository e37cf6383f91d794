-- A segment whose epoch runs, and what is to be added to it.
use Rattle.std.specs.Prelude.{◌≡◌, ℕ, ◌+◌, List, [], ◌∷◌, ◌++◌, length, map}
use Rattle.std.specs.List.{AllByRecursion}
use Rattle.std.specs.declared.alloc.Global.{Global}
use Rattle.maildrop.specs.Office.{User}
use Rattle.maildrop.specs.declared.command.Command.{Command}
use Rattle.records.specs.Spelling.{IsPayload, spell}
use Rattle.batches.specs.Batches.{content_of}
use Rattle.batches.specs.Contents.{IsContentOf}
use Rattle.ledger.specs.Taking.{Decided, LedgerState, entries_of}
use Rattle.ledger.specs.declared.entry.Entry.{Entry}
use Rattle.store.specs.Whole.{entry_payload}
use Rattle.store.specs.Restarts.{users_through}
use Rattle.store.specs.declared.pending.Closed.{Closed}

-- the content of a batch of entries that are to be added
pub record IsAddition (content : List ℕ) : Type 0 where
  pub entries : List (Entry Global)
  pub is : IsContentOf (map entry_payload entries) content
  pub fits : IsPayload content

-- the contents of batches, one after another
abbrev pub contents_in : List Closed → List ℕ
contents_in [] = []
contents_in (closed ∷ others) = closed.batch ++ contents_in others

-- batches that take no more entries, and the one that does; their contents have so many bytes
pub record ArePending (closed : List Closed) (last : List ℕ) (size : ℕ) : Type 0 where
  pub closed_are : AllByRecursion (λ (c : Closed). IsAddition c.batch) closed
  pub last_is : IsAddition last
  pub size_is : size ≡ length (contents_in closed ++ last)

-- a file with this salt has these bytes, to which a batch with this content was added
abbrev pub IsCommitted : ℕ → List ℕ → List ℕ → List ℕ → Type 0
IsCommitted salt old content new = new ≡ old ++ spell salt (length old) content

-- a payload is that of an entry
pub record IsEntry (payload : List ℕ) : Type 0 where
  pub entry : Entry Global
  pub is : payload ≡ entry_payload entry

-- these payloads come after those that are to be added
abbrev pub with_payloads : List ℕ → List (List ℕ) → List ℕ
with_payloads content payloads = content ++ content_of payloads

-- the payloads of what commands change, one after another
abbrev pub payloads_of : List (User Global) → List (Decided Global) → List (List ℕ)
payloads_of users decided = map entry_payload (entries_of users decided)

-- commands, each with its slot
abbrev pub decided_of : List (ℕ × Command Global) → List (Decided Global)
decided_of commands = map (λ c. record { slot = c.0; command = c.1 }) commands

-- A ledger and what is to be added, before and after these commands: the ledger has taken each of them once, in their order,
-- and what they change is to be added.
pub record HaveTaken (decided : List (Decided Global)) (ledger : LedgerState Global) (pending : List ℕ) (ledger_after : LedgerState Global) (pending_after : List ℕ) : Type 0 where
  pub users_are : ledger_after.users ≡ users_through ledger.users decided
  pub count : ledger_after.taken ≡ ledger.taken + length decided
  pub added : pending_after ≡ with_payloads pending (payloads_of ledger.users decided)

-- Commands were taken of which this is known.
abbrev pub TakesSuch : (List (ℕ × Command Global) → Type 0) → LedgerState Global → List ℕ → LedgerState Global → List ℕ → Type 0
TakesSuch are ledger pending ledger_after pending_after =
    (commands : List (ℕ × Command Global)) × are commands × HaveTaken (decided_of commands) ledger pending ledger_after pending_after
