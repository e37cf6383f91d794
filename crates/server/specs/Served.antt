-- A lone session over its desk. Only private contracts cite this.
use Rattle.std.specs.Prelude.{◌≡◌, ◌≢◌, ℕ, ◌+◌, true, List, [], ◌∷◌, length, Option}
use Rattle.std.specs.List.{concat}
use Rattle.std.specs.declared.alloc.Global.{Global}
use mathlib.Core.Logic.{◌⊎◌}
use Rattle.maildrop.specs.Office.{User, new_user, outcome_in, users_after}
use Rattle.maildrop.specs.declared.command.Command.{Command}
use Rattle.apop.specs.Accounts.{Account}
use Rattle.apop.specs.Stamp.{Stamp}
use Rattle.pop3_wire.specs.Lines.{lines_of}
use Rattle.session.specs.Conversation.{Answer, conversation}
use Rattle.session.specs.Serve.{IsTranscript, IsReadAndWritten}
use Rattle.session.specs.declared.transcript.Transcript.{Transcript}
use Rattle.session.specs.declared.transcript.End.{End}
use Rattle.session.specs.declared.transcript.End.TheVariants as end
use Rattle.server.specs.Lone.{commands_from, mails_from, AreStored}
use Rattle.server.specs.Options.{lone_limits}
use Rattle.server.specs.declared.fault.Fault.{Fault}
use Rattle.server.specs.declared.fault.Fault.TheVariants as fault
use Rattle.server.specs.declared.lone_desk.LoneDesk.{LoneDesk}
use Rattle.server.specs.declared.options.LoneOptions.{LoneOptions}

module _ {A : Type 0} where
  -- what an office answers to commands, in order
  abbrev pub answers_in : List (User A) → List (Command A) → List (Answer A)
  answers_in users [] = []
  answers_in users (c ∷ cs) = record { ticket = c.ticket; outcome = outcome_in users c } ∷ answers_in (users_after users c) cs

  -- an office after commands, in order
  abbrev pub users_after_all : List (User A) → List (Command A) → List (User A)
  users_after_all users [] = users
  users_after_all users (c ∷ cs) = users_after_all (users_after users c) cs

  -- what is written is a whole session, if what it asks are commands under the tickets from this number on, which
  -- the office answers
  pub record IsSessionOf (accounts : List Account) (stamp : Stamp) (first : ℕ) (users : List (User A)) (input written : List ℕ) : Type 0 where
    pub own : List (Command A)
    pub asked : own ≡ commands_from first (conversation accounts stamp (lines_of input) (answers_in users own)).asked
    pub replied : written ≡ concat (conversation accounts stamp (lines_of input) (answers_in users own)).replies

-- the desk has each message of the file
pub record IsMailed (user : List ℕ) (options : LoneOptions) (desk : LoneDesk Global) : Type 0 where
  pub texts : List (List (List ℕ))
  pub stored : AreStored Global true options texts
  pub office : desk.office ≡ users_after_all {A = Global} (new_user lone_limits user ∷ []) (mails_from 1 user texts)
  pub next : desk.next ≡ 1 + length texts

-- a fault of a run, and none of its options
abbrev pub IsOfRun : Fault → Type 0
IsOfRun reason = (reason ≡ fault.Memory) ⊎ (reason ≡ fault.Read) ⊎ (reason ≡ fault.Write)

-- the end of a session that is this fault of its run
abbrev pub IsEndBy : Fault → End → Type 0
IsEndBy fault.Account ended = ⊥
IsEndBy fault.Value ended = ⊥
IsEndBy fault.Mailbox ended = ⊥
IsEndBy fault.Mail ended = ⊥
IsEndBy fault.Memory ended = (ended ≡ end.DeskStopped) ⊎ (ended ≡ end.Memory)
IsEndBy fault.Read ended = ended ≡ end.ReadFault
IsEndBy fault.Write ended = ended ≡ end.WriteFault

-- A session was served up to this fault: what it heard was read, and what it said was written, as far as its end says.
pub record IsCutBy (accounts : List Account) (stamp : Stamp) (reason : Fault) (remaining remaining2 contents contents2 : Option (List ℕ)) : Type 0 where
  pub transcript : Transcript Global
  pub tells : IsTranscript accounts stamp transcript
  pub bytes : IsReadAndWritten accounts stamp transcript remaining remaining2 contents contents2
  pub ended : IsEndBy reason transcript.end

-- no session was served: nothing was written, and it is no fault of reading or writing
abbrev pub IsUnserved : {W : Type 0} → Fault → W → W → Type 0
IsUnserved reason old new = (reason ≢ fault.Read) × (reason ≢ fault.Write) × (new ≡ old)
