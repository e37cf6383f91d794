-- What a POP3 server with one user's maildrop alone says to a lone session, and with which status the run ends.
use Rattle.std.specs.Prelude.{◌≡◌, ℕ, ◌+◌, Bool, true, false, ◌&&◌, ◌++◌, List, [], ◌∷◌, length, Option, Some, None, Ok, Err}
use Rattle.std.specs.List.{concat}
use mathlib.Core.Logic.{◌⊎◌}
use Rattle.maildrop.specs.Ticket.{Ticket}
use Rattle.maildrop.specs.Maildrop.{empty_maildrop}
use Rattle.maildrop.specs.Office.{outcome_at, maildrop_after}
use Rattle.maildrop.specs.Maildrop.{Maildrop}
use Rattle.maildrop.specs.declared.op.Op.TheVariants.{Mail}
use Rattle.maildrop.specs.declared.outcome.Outcome.{Outcome}
use Rattle.maildrop.specs.declared.outcome.Outcome.TheVariants.{Stored}
use Rattle.maildrop.specs.declared.command.Command.{Command}
use Rattle.mboxrd.specs.declared.error.MboxError.TheVariants.{NoFromLine}
use Rattle.pop3_wire.specs.Lines.{lines_of}
use Rattle.session.specs.Conversation.{Request, conversation}
use Rattle.session.specs.Alone.{answers_for, replies_alone}
use Rattle.server.specs.Tickets.{ticket_of}
use Rattle.server.specs.Options.{IsAccount, IsStamp, account_of, stamp_of, texts_of, lone_limits}
use Rattle.server.specs.declared.options.LoneOptions.{LoneOptions}
use Rattle.server.specs.declared.fault.Fault.{Fault}
use Rattle.server.specs.declared.fault.Fault.TheVariants as fault

module _ {A : Type 0} where
  -- asked operations as commands, under the tickets of node 1 from a number on
  abbrev pub commands_from : ℕ → List (Request A) → List (Command A)
  commands_from number [] = []
  commands_from number (a ∷ more) = record { user = a.user; ticket = ticket_of number; op = a.op } ∷ commands_from (number + 1) more

  -- the texts of a mailbox as commands without a key, under the tickets from a number on
  abbrev pub mails_from : ℕ → List ℕ → List (List (List ℕ)) → List (Command A)
  mails_from number user [] = []
  mails_from number user (text ∷ texts) = record { user = user; ticket = ticket_of number; op = Mail text None } ∷ mails_from (number + 1) user texts

  abbrev pub tickets_of : List (Command A) → List Ticket
  tickets_of [] = []
  tickets_of (c ∷ cs) = c.ticket ∷ tickets_of cs

  abbrev pub is_stored : Outcome A → Bool
  is_stored (Stored uid) = true
  is_stored outcome = false

  -- each of these commands stores a message
  abbrev pub are_stored : Option (Maildrop A) → List (Command A) → Bool
  are_stored maildrop [] = true
  are_stored maildrop (c ∷ cs) = is_stored (outcome_at maildrop c) && are_stored (maildrop_after maildrop c) cs

-- the user's maildrop before any mail
abbrev pub lone_maildrop : (A : Type 0) → Option (Maildrop A)
lone_maildrop A = Some (empty_maildrop lone_limits)

-- each text of the mailbox file is stored, or one is not
abbrev pub AreStored : Type 0 → Bool → LoneOptions → List (List (List ℕ)) → Type 0
AreStored A all options texts = (texts_of options ≡ Ok texts) × (are_stored (lone_maildrop A) (mails_from 1 options.user.now texts) ≡ all)

-- What is written is what a server says to the lines of the input that has the user's maildrop alone, if the user's
-- commands are the texts of the mailbox file and then what the session asks, each under the next ticket of node 1.
pub record IsLoneSession (A : Type 0) (options : LoneOptions) (input written : List ℕ) : Type 0 where
  pub texts : List (List (List ℕ))
  pub stored : AreStored A true options texts
  pub asked : List (Request A)
  pub mails : List (Command A)
  pub mailed : mails ≡ mails_from 1 options.user.now texts
  pub own : List (Command A)
  pub commanded : own ≡ commands_from (1 + length texts) asked
  pub asks : asked ≡ (conversation (account_of options ∷ []) (stamp_of options) (lines_of input) (answers_for (lone_maildrop A) (mails ++ own) (tickets_of own))).asked
  pub replied : written ≡ concat (replies_alone (account_of options ∷ []) (stamp_of options) (lone_maildrop A) (lines_of input) (tickets_of own) (mails ++ own))

-- The first fault of the options, in this order: the account (user, method and secret), the timestamp (nonce and host),
-- the mailbox file, and a message of it that is refused.
abbrev pub IsFirstFault : Type 0 → LoneOptions → Fault → Type 0
IsFirstFault A options fault.Account = ¬ IsAccount options
IsFirstFault A options fault.Value = IsAccount options × ¬ IsStamp options
IsFirstFault A options fault.Mailbox = IsAccount options × IsStamp options × (texts_of options ≡ Err NoFromLine)
IsFirstFault A options fault.Mail = IsAccount options × IsStamp options × ((texts : List (List (List ℕ))) × AreStored A false options texts)
IsFirstFault A options fault.Memory = ⊥
IsFirstFault A options fault.Read = ⊥
IsFirstFault A options fault.Write = ⊥

-- the options have no fault
abbrev pub AreGood : Type 0 → LoneOptions → Type 0
AreGood A options = IsAccount options × IsStamp options × ((texts : List (List (List ℕ))) × AreStored A true options texts)

abbrev pub status_at : Fault → ℕ
status_at fault.Account = 2
status_at fault.Value = 2
status_at fault.Mailbox = 2
status_at fault.Mail = 3
status_at fault.Memory = 1
status_at fault.Read = 1
status_at fault.Write = 1

-- the status that the options bring: that of their first fault, or 0
abbrev pub IsStatusOf : Type 0 → LoneOptions → ℕ → Type 0
IsStatusOf A options status = ((first : Fault) × IsFirstFault A options first × (status ≡ status_at first)) ⊎ (AreGood A options × (status ≡ 0))
