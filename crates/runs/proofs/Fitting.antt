-- What a line asks for, where it leaves its session, and the outcomes that it may have.
use Rattle.std.proofs.Common.{◌≡◌, ℕ, Bool, true, false, List, Option, Some, None, refl, inl, inr}
use Rattle.std.specs.Prelude.{nat_lt, is_some, Result, Ok, Err, ⊤}
use Rattle.std.specs.List.{list_any}
use Rattle.std.proofs.lemmas.Bool.{cases_Bool}
use Rattle.maildrop.specs.Maildrop.{Maildrop, effect_of, effect_of_take, is_held_by}
use Rattle.maildrop.specs.Ticket.{Ticket}
use Rattle.maildrop.specs.declared.op.Op.{Op}
use Rattle.maildrop.specs.declared.op.Op.TheVariants.{Take, Commit, Free}
use Rattle.apop.specs.Accounts.{Account}
use Rattle.apop.specs.Login.{passes, passes_apop}
use Rattle.apop.specs.Stamp.{Stamp}
use Rattle.pop3_wire.specs.Commands.{verb_of}
use Rattle.pop3_wire.specs.declared.line.Line.{Line}
use Rattle.pop3_wire.specs.declared.line.Line.TheVariants.{Whole, TooLong}
use Rattle.pop3_wire.specs.declared.verb.LineFault.{LineFault}
use Rattle.pop3_wire.specs.declared.verb.Verb.{Verb}
use Rattle.pop3_wire.specs.declared.verb.Verb.TheVariants as verb
use Rattle.session.specs.OpenMessages.{message_at}
use Rattle.session.specs.Session.{by_line, by_answer, too_long, after_invalid_login, checked_login, login, in_authorization, in_transaction, delete, quit, at_lock}
use Rattle.session.specs.declared.open_message.OpenMessage.{OpenMessage}
use Rattle.session.specs.declared.state.State.{State}
use Rattle.session.specs.declared.state.State.TheVariants.{Authorization, Locking, Transaction, Leaving}
use Rattle.session.specs.declared.state.Step.{Step}
use Rattle.session.specs.declared.state.Step.TheVariants.{Ask}
use Rattle.session.specs.declared.state.Turn.{Turn}

module _ {A : Type 0} where
  -- the state in which the answer to the operation is awaited
  abbrev pub Fits : Op A → State A → Type 0
  Fits Take (Locking user) = ⊤
  Fits (Commit lock uids) (Leaving removing) = ⊤
  Fits (Free lock) (Leaving removing) = ⊤
  Fits op state = ⊥

  abbrev pub StepFits : Step A → State A → Type 0
  StepFits (Ask user op) state = Fits op state
  StepFits step state = ⊤

  abbrev TurnFits : Turn A → Type 0
  TurnFits turn = StepFits turn.step turn.state

invalid_fits : (A : Type 0) (invalid : ℕ) → TurnFits (after_invalid_login {A = A} invalid)
invalid_fits A invalid = elim (cases_Bool (nat_lt invalid 2)) [
  | inl few ↦ rw few tt
  | inr many ↦ rw many tt
]

checked_fits : (A : Type 0) (right : Bool) (user : List ℕ) (invalid : ℕ) → TurnFits (checked_login {A = A} right user invalid)
checked_fits A true user invalid = tt
checked_fits A false user invalid = invalid_fits A invalid

login_fits : (A : Type 0) (accounts : List Account) (user : Option (List ℕ)) (invalid : ℕ) (secret : List ℕ) → TurnFits (login {A = A} accounts user invalid secret)
login_fits A accounts None invalid secret = tt
login_fits A accounts (Some user) invalid secret = checked_fits A (passes accounts user secret) user invalid

authorization_fits : (A : Type 0) (accounts : List Account) (stamp : Stamp) (user : Option (List ℕ)) (invalid : ℕ) (command : Result Verb LineFault) → TurnFits (in_authorization {A = A} accounts stamp user invalid command)
authorization_fits A accounts stamp user invalid (Ok (verb.Pass secret)) = login_fits A accounts user invalid secret
authorization_fits A accounts stamp user invalid (Ok (verb.Apop name digest)) = checked_fits A (passes_apop accounts name stamp digest) name invalid
authorization_fits A accounts stamp user invalid (Ok command) = tt
authorization_fits A accounts stamp user invalid (Err fault) = tt

module _ {A : Type 0} where
  delete_fits : (user : List ℕ) (lock : Ticket) (entries : List (OpenMessage A)) (number : ℕ) (found : Option (OpenMessage A)) → TurnFits (delete user lock entries number found)
  delete_fits user lock entries number None = tt
  delete_fits user lock entries number (Some entry) = tt

  quit_fits : (user : List ℕ) (lock : Ticket) (entries : List (OpenMessage A)) → TurnFits (quit user lock entries)
  quit_fits user lock entries = elim (cases_Bool (list_any (λ (entry : OpenMessage A). entry.marked) entries)) [
    | inl some ↦ rw some tt
    | inr none ↦ rw none tt
  ]

  transaction_fits : (user : List ℕ) (lock : Ticket) (entries : List (OpenMessage A)) (command : Result Verb LineFault) → TurnFits (in_transaction user lock entries command)
  transaction_fits user lock entries (Ok (verb.Dele number)) = delete_fits user lock entries number (message_at entries number)
  transaction_fits user lock entries (Ok verb.Quit) = quit_fits user lock entries
  transaction_fits user lock entries (Ok command) = tt
  transaction_fits user lock entries (Err fault) = tt

  long_fits : (state : State A) → TurnFits (too_long state)
  long_fits (Authorization user invalid) = tt
  long_fits state = tt

  pub line_fits : (accounts : List Account) (stamp : Stamp) (state : State A) (line : Line) → TurnFits (by_line accounts stamp state line)
  line_fits accounts stamp state TooLong = long_fits state
  line_fits accounts stamp (Authorization user invalid) (Whole bytes) = authorization_fits A accounts stamp user invalid (verb_of bytes)
  line_fits accounts stamp (Transaction user lock entries) (Whole bytes) = transaction_fits user lock entries (verb_of bytes)
  line_fits accounts stamp state (Whole bytes) = tt

  -- the outcome of what was asked for fits
  pub outcome_fits : (op : Op A) (state : State A) (maildrop : Maildrop A) (ticket its : Ticket) → Fits op state → is_some (by_answer state ticket (effect_of maildrop its op).outcome) ≡ true
  outcome_fits Take (Locking user) maildrop ticket its fits =
      go maildrop.holder
    where
      go : (holder : Option Ticket) → is_some (at_lock user ticket (effect_of_take maildrop its holder).outcome) ≡ true
      go None = refl
      go (Some holder) = refl
  outcome_fits (Commit lock uids) (Leaving removing) maildrop ticket its fits = elim (cases_Bool (is_held_by maildrop.holder lock)) [
    | inl held ↦ rw held refl
    | inr other ↦ rw other refl
  ]
  outcome_fits (Free lock) (Leaving removing) maildrop ticket its fits = elim (cases_Bool (is_held_by maildrop.holder lock)) [
    | inl held ↦ rw held refl
    | inr other ↦ rw other refl
  ]
  outcome_fits op state maildrop ticket its fits = absurd fits
