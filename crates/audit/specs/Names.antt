-- Which transcripts name which commands.
use Rattle.std.specs.Prelude.{ℕ, suc, List, [], ◌∷◌, Bool, false, Option, Some, None, if◌then◌else◌}
use Rattle.maildrop.specs.CommandId.{CommandId, same_id}
use Rattle.maildrop.specs.Ticket.{Ticket}
use Rattle.session.specs.declared.transcript.Asked.{Asked}
use Rattle.session.specs.declared.transcript.Transcript.{Transcript}

abbrev pub key_by : List ℕ → Option Ticket → Option CommandId
key_by name None = None
key_by name (Some ticket) = Some (record { user = name; ticket = ticket })

abbrev pub with_key : Option CommandId → List CommandId → List CommandId
with_key None ids = ids
with_key (Some id) ids = id ∷ ids

abbrev pub names_it : CommandId → Option CommandId → Bool
names_it id None = false
names_it id (Some named) = same_id named id

module _ {A : Type 0} where
  abbrev pub entry_key : Asked A → Option CommandId
  entry_key entry = key_by entry.name entry.ticket

  -- the commands that entries name
  abbrev pub entry_keys : List (Asked A) → List CommandId
  entry_keys [] = []
  entry_keys (entry ∷ entries) = with_key (entry_key entry) (entry_keys entries)

  -- the first of a session's entries, the first of this number, that names a command; or else what is found otherwise
  abbrev pub named_in : CommandId → ℕ → ℕ → List (Asked A) → Option (ℕ × ℕ) → Option (ℕ × ℕ)
  named_in id session number [] otherwise = otherwise
  named_in id session number (entry ∷ entries) otherwise = if names_it id (entry_key entry) then Some (session, number) else named_in id session (suc number) entries otherwise

  -- the first transcript, and the first of its entries, that names a command
  abbrev pub named_from : CommandId → ℕ → List (Transcript A) → Option (ℕ × ℕ)
  named_from id session [] = None
  named_from id session (t ∷ ts) = named_in id session 0 t.asked (named_from id (suc session) ts)
