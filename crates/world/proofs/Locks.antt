-- A line that asks for nothing leaves the lock of its session as it is.
use Rattle.std.proofs.Common.{◌≡◌, ℕ, Bool, true, false, List, Option, Some, None, refl, inl, inr}
use Rattle.std.specs.Prelude.{nat_lt, Result, Ok, Err}
use Rattle.std.specs.List.{list_any}
use Rattle.std.proofs.lemmas.Bool.{cases_Bool}
use Rattle.maildrop.specs.Ticket.{Ticket}
use Rattle.apop.specs.Stamp.{Stamp}
use Rattle.apop.specs.Accounts.{Account}
use Rattle.apop.specs.Login.{passes, passes_apop}
use Rattle.pop3_wire.specs.Commands.{verb_of}
use Rattle.pop3_wire.specs.declared.line.Line.{Line}
use Rattle.pop3_wire.specs.declared.line.Line.TheVariants.{Whole, TooLong}
use Rattle.pop3_wire.specs.declared.verb.Verb.{Verb}
use Rattle.pop3_wire.specs.declared.verb.Verb.TheVariants as verb
use Rattle.pop3_wire.specs.declared.verb.LineFault.{LineFault}
use Rattle.session.specs.declared.open_message.OpenMessage.{OpenMessage}
use Rattle.session.specs.declared.state.State.{State}
use Rattle.session.specs.declared.state.State.TheVariants.{Authorization, Locking, Transaction, Leaving, Closed, Spent}
use Rattle.session.specs.declared.state.Step.{Step}
use Rattle.session.specs.declared.state.Step.TheVariants.{Say, Ask, SayAndClose}
use Rattle.session.specs.declared.state.Turn.{Turn}
use Rattle.session.specs.OpenMessages.{message_at}
use Rattle.session.specs.Session.{takes_line, lock_due, after_invalid_login, checked_login, login, in_authorization, delete, quit, in_transaction, by_line}

module _ {A : Type 0} where
  abbrev pub KeepsLock : Option (List ℕ × Ticket) → Step A → State A → Type 0
  KeepsLock lock (Say bytes) state = lock_due state ≡ lock
  KeepsLock lock (SayAndClose bytes) state = lock_due state ≡ lock
  KeepsLock lock (Ask user op) state = Unit {0}

  abbrev Keeps : Option (List ℕ × Ticket) → Turn A → Type 0
  Keeps lock turn = KeepsLock lock turn.step turn.state

invalid_keeps : (A : Type 0) (invalid : ℕ) → Keeps None (after_invalid_login {A = A} invalid)
invalid_keeps A invalid = elim (cases_Bool (nat_lt invalid 2)) [
  | inl few ↦ rw few refl
  | inr many ↦ rw many refl
]

checked_keeps : (A : Type 0) (right : Bool) (user : List ℕ) (invalid : ℕ) → Keeps None (checked_login {A = A} right user invalid)
checked_keeps A true user invalid = tt
checked_keeps A false user invalid = invalid_keeps A invalid

login_keeps : (A : Type 0) (accounts : List Account) (user : Option (List ℕ)) (invalid : ℕ) (secret : List ℕ) → Keeps None (login {A = A} accounts user invalid secret)
login_keeps A accounts None invalid secret = refl
login_keeps A accounts (Some user) invalid secret = checked_keeps A (passes accounts user secret) user invalid

authorization_keeps : (A : Type 0) (accounts : List Account) (stamp : Stamp) (user : Option (List ℕ)) (invalid : ℕ) (command : Result Verb LineFault) → Keeps None (in_authorization {A = A} accounts stamp user invalid command)
authorization_keeps A accounts stamp user invalid (Ok (verb.User name)) = refl
authorization_keeps A accounts stamp user invalid (Ok (verb.Pass secret)) = login_keeps A accounts user invalid secret
authorization_keeps A accounts stamp user invalid (Ok (verb.Apop name digest)) = checked_keeps A (passes_apop accounts name stamp digest) name invalid
authorization_keeps A accounts stamp user invalid (Ok verb.Stat) = refl
authorization_keeps A accounts stamp user invalid (Ok (verb.List number)) = refl
authorization_keeps A accounts stamp user invalid (Ok (verb.Retr number)) = refl
authorization_keeps A accounts stamp user invalid (Ok (verb.Dele number)) = refl
authorization_keeps A accounts stamp user invalid (Ok verb.Noop) = refl
authorization_keeps A accounts stamp user invalid (Ok verb.Rset) = refl
authorization_keeps A accounts stamp user invalid (Ok (verb.Top number lines)) = refl
authorization_keeps A accounts stamp user invalid (Ok (verb.Uidl number)) = refl
authorization_keeps A accounts stamp user invalid (Ok verb.Capa) = refl
authorization_keeps A accounts stamp user invalid (Ok verb.Quit) = refl
authorization_keeps A accounts stamp user invalid (Err fault) = refl

module _ {A : Type 0} where
  delete_keeps : (user : List ℕ) (lock : Ticket) (entries : List (OpenMessage A)) (number : ℕ) (found : Option (OpenMessage A)) → Keeps (Some (user, lock)) (delete user lock entries number found)
  delete_keeps user lock entries number None = refl
  delete_keeps user lock entries number (Some entry) = refl

  quit_keeps : (user : List ℕ) (lock : Ticket) (entries : List (OpenMessage A)) → Keeps (Some (user, lock)) (quit user lock entries)
  quit_keeps user lock entries = elim (cases_Bool (list_any (λ (entry : OpenMessage A). entry.marked) entries)) [
    | inl some ↦ rw some tt
    | inr none ↦ rw none tt
  ]

  transaction_keeps : (user : List ℕ) (lock : Ticket) (entries : List (OpenMessage A)) (command : Result Verb LineFault) → Keeps (Some (user, lock)) (in_transaction user lock entries command)
  transaction_keeps user lock entries (Ok (verb.User name)) = refl
  transaction_keeps user lock entries (Ok (verb.Pass secret)) = refl
  transaction_keeps user lock entries (Ok (verb.Apop name digest)) = refl
  transaction_keeps user lock entries (Ok verb.Stat) = refl
  transaction_keeps user lock entries (Ok (verb.List number)) = refl
  transaction_keeps user lock entries (Ok (verb.Retr number)) = refl
  transaction_keeps user lock entries (Ok (verb.Dele number)) = delete_keeps user lock entries number (message_at entries number)
  transaction_keeps user lock entries (Ok verb.Noop) = refl
  transaction_keeps user lock entries (Ok verb.Rset) = refl
  transaction_keeps user lock entries (Ok (verb.Top number lines)) = refl
  transaction_keeps user lock entries (Ok (verb.Uidl number)) = refl
  transaction_keeps user lock entries (Ok verb.Capa) = refl
  transaction_keeps user lock entries (Ok verb.Quit) = quit_keeps user lock entries
  transaction_keeps user lock entries (Err fault) = refl

  pub line_keeps : (accounts : List Account) (stamp : Stamp) (state : State A) (line : Line) → takes_line state ≡ true → Keeps (lock_due state) (by_line accounts stamp state line)
  line_keeps accounts stamp (Authorization user invalid) TooLong hearing = refl
  line_keeps accounts stamp (Authorization user invalid) (Whole bytes) hearing = authorization_keeps A accounts stamp user invalid (verb_of bytes)
  line_keeps accounts stamp (Transaction user lock entries) TooLong hearing = refl
  line_keeps accounts stamp (Transaction user lock entries) (Whole bytes) hearing = transaction_keeps user lock entries (verb_of bytes)
  line_keeps accounts stamp (Locking user) line hearing = absurd (cc)
  line_keeps accounts stamp (Leaving removing) line hearing = absurd (cc)
  line_keeps accounts stamp Closed line hearing = absurd (cc)
  line_keeps accounts stamp (Spent lock) line hearing = absurd (cc)
