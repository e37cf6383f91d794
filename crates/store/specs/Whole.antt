-- The bytes of a segment of which no record is missing.
use Rattle.std.specs.Prelude.{◌≡◌, ℕ, List, [], ◌∷◌, ◌++◌, length, map}
use Rattle.std.specs.declared.alloc.Global.{Global}
use Rattle.ledger.specs.Payloads.{payload, begin_payload, opened_payload}
use Rattle.ledger.specs.declared.entry.Entry.{Entry}
use Rattle.records.specs.Spelling.{spell}
use Rattle.batches.specs.Batches.{IsFileOf}

abbrev pub entry_payload : {A : Type 0} → Entry A → List ℕ
entry_payload entry = payload entry.slot entry.name entry.change

-- the payloads of a segment: its number, the entries of the snapshot, their end, and the entries of the epoch so far
abbrev pub running_payloads : ℕ → List (Entry Global) → List (Entry Global) → List (List ℕ)
running_payloads number snapshot epoch =
    begin_payload number ∷ map entry_payload snapshot ++ opened_payload ∷ map entry_payload epoch

-- These bytes, of this size, are a segment with this salt: its number, all entries of its snapshot, their end, and entries of
-- its epoch. No part of a batch follows.
pub record IsRunning (salt size : ℕ) (bytes : List ℕ) : Type 0 where
  pub number : ℕ
  pub snapshot : List (Entry Global)
  pub epoch : List (Entry Global)
  pub bytes_are : IsFileOf salt (running_payloads number snapshot epoch) bytes
  pub size_is : size ≡ length bytes

-- the segment with this number
pub record IsNumbered (number salt size : ℕ) (bytes : List ℕ) : Type 0 where
  pub running : IsRunning salt size bytes
  pub number_is : running.number ≡ number

-- a segment, whatever its salt is
pub record IsWhole (bytes : List ℕ) : Type 0 where
  pub salt : ℕ
  pub size : ℕ
  pub running : IsRunning salt size bytes

-- A segment that was ended: the last of its batches has no entries. Before it the segment was whole too, with the same entries.
pub record IsEnded (bytes : List ℕ) : Type 0 where
  pub salt : ℕ
  pub number : ℕ
  pub snapshot : List (Entry Global)
  pub epoch : List (Entry Global)
  pub before : List ℕ
  pub before_is : IsFileOf salt (running_payloads number snapshot epoch) before
  pub bytes_are : bytes ≡ before ++ spell salt (length before) []
  pub whole : IsFileOf salt (running_payloads number snapshot epoch) bytes
