-- The sessions of a service: how many were greeted, and the transcripts of those that have ended.
use Rattle.std.specs.Prelude.{◌≡◌, refl, ℕ, suc, length, List, [], ◌∷◌, Bool, true, false, Option, Some, None, slice_get, if◌then◌else◌}
use Rattle.std.specs.List.{All, filter}
use Rattle.std.specs.declared.alloc.Global.{Global}
use Rattle.apop.specs.Accounts.{Account}
use Rattle.apop.specs.Stamp.{Stamp}
use Rattle.session.specs.Serve.{IsTranscript, IsWritten, nothing}
use Rattle.session.specs.declared.transcript.Asked.{Asked}
use Rattle.session.specs.declared.transcript.Transcript.{Transcript}
use Rattle.service.specs.declared.verdict.Verdict.{Verdict}
use Rattle.service.specs.declared.verdict.Verdict.TheVariants.{Legal, NoOrder, WrongAnswer, Memory}

-- This is what `session::serve` leaves of a session over these accounts: for the greeting of some stamp the transcript is
-- one of the session function, and it counts some bytes that were written as that function defines.
pub record IsServed (accounts : List Account) (transcript : Transcript Global) : Type 0 where
  pub stamp : Stamp
  pub written : List ℕ
  pub transcribed : IsTranscript accounts stamp transcript
  pub counted : transcript.count ≡ length written
  pub said : IsWritten accounts stamp transcript written

-- each is what `session::serve` leaves
abbrev pub WereServed : List Account → List (Transcript Global) → Type 0
WereServed accounts transcripts = All (IsServed accounts) transcripts

module _ {A : Type 0} where
  abbrev pub is_some_asked : List (Asked A) → Bool
  is_some_asked [] = false
  is_some_asked (entry ∷ entries) = true

  -- the session asked its node for something
  abbrev pub has_asked : Transcript A → Bool
  has_asked transcript = is_some_asked transcript.asked

  -- the numbers of the sessions that asked something, if the first session has this number
  abbrev pub numbers_from : ℕ → List (Transcript A) → List ℕ
  numbers_from number [] = []
  numbers_from number (transcript ∷ transcripts) =
      if has_asked transcript then number ∷ numbers_from (suc number) transcripts else numbers_from (suc number) transcripts

-- what is kept of the sessions of a service
pub record TranscriptsValue : Type 0 where
  -- the transcripts of sessions that have ended, and the number of each session among all that have ended
  pub kept : List (Transcript Global)
  pub numbers : List ℕ
  -- how many sessions were greeted, and how many have ended
  pub greeted : ℕ
  pub ended : ℕ
  -- there was no room for something
  pub is_short : Bool

abbrev pub no_transcripts : TranscriptsValue
no_transcripts = record { kept = []; numbers = []; greeted = 0; ended = 0; is_short = false }

-- These are the transcripts of all sessions that have ended, in that order: those of sessions that asked something are kept, the
-- others are counted.
pub record AreKept (value : TranscriptsValue) (transcripts : List (Transcript Global)) : Type 0 where
  pub kept : value.kept ≡ filter has_asked transcripts
  pub numbers : value.numbers ≡ numbers_from 0 transcripts
  pub counted : value.ended ≡ length transcripts

-- the same, unless there was no room for something
abbrev pub AreEnded : TranscriptsValue → List (Transcript Global) → Type 0
AreEnded value transcripts = value.is_short ≡ false → AreKept value transcripts

-- the sessions that have ended left some transcripts, each of which is what `session::serve` leaves
abbrev pub KeepsServed : List Account → TranscriptsValue → Type 0
KeepsServed accounts value = (transcripts : List (Transcript Global)) × AreEnded value transcripts × WereServed accounts transcripts

abbrev pub number_or : Option ℕ → ℕ → ℕ
number_or None place = place
number_or (Some number) place = number

-- the number of the session whose transcript is at this place
abbrev pub number_at : List ℕ → ℕ → ℕ
number_at numbers place = number_or (slice_get numbers place) place

-- a verdict that names a session by its number and not by the place of its transcript
abbrev pub numbered : List ℕ → Verdict → Verdict
numbered numbers Legal = Legal
numbered numbers (NoOrder node) = NoOrder node
numbered numbers (WrongAnswer place) = WrongAnswer (number_at numbers place)
numbered numbers Memory = Memory

-- of two sessions the first asked nothing: one transcript is kept, that of session 1
module _ {A : Type 0} (entry : Asked A) where
  abbrev asks : Transcript A
  asks = record nothing { asked = entry ∷ [] }

  kept_of_two : filter has_asked (nothing ∷ asks ∷ []) ≡ asks ∷ []
  kept_of_two = refl

  numbers_of_two : numbers_from 0 (nothing ∷ asks ∷ []) ≡ 1 ∷ []
  numbers_of_two = refl
