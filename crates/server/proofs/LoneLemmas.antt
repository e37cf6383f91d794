-- A session that was served over the desk of a lone session is one that the user's maildrop answers.
use Rattle.std.proofs.Common.{◌≡◌, ◌⊎◌, ℕ, ◌+◌, List, [], ◌∷◌, ◌++◌, Option, Some, None, refl, ap, sym, ◌∙◌, append-nil, inl, inr, subst, rules}
use Rattle.std.specs.Prelude.{IfSome, OnOk, IfErr, IsOk, Result, Ok, Err, ◌↔◌}
use Rattle.std.specs.List.{concat}
use Rattle.std.specs.Io.KnownBytes.{Appends}
use Rattle.std.specs.declared.alloc.Global.{Global}
use Rattle.maildrop.specs.Ticket.{Ticket}
use Rattle.maildrop.specs.Office.{outcome_in, users_after}
use Rattle.maildrop.specs.declared.outcome.Outcome.{Outcome}
use Rattle.maildrop.specs.declared.command.Command.{Command}
use Rattle.apop.specs.Stamp.{Stamp}
use Rattle.apop.specs.Accounts.{Account}
use Rattle.pop3_wire.specs.Lines.{lines_of}
use Rattle.pop3_wire.specs.Reply.{greeting}
use Rattle.session.specs.Session.{opening, free_of, lock_due}
use Rattle.session.specs.Conversation.{Answer, Conversation, with_reply, conversation}
use Rattle.session.specs.Transcript.{answers_of, requests_of, given_of, AreAnswered, IsHistory}
use Rattle.session.specs.Prefix.{IsPrefix}
use Rattle.session.specs.Serve.{IsTranscript, IsReadAndWritten, IsLeftBy, IsWrittenBy, IsWritten, AreAnsweredAt, told}
use Rattle.session.specs.declared.state.State.{State}
use Rattle.session.specs.declared.state.State.TheVariants.{Closed}
use Rattle.session.specs.declared.transcript.End.{End}
use Rattle.session.specs.declared.transcript.Asked.{Asked}
use Rattle.session.specs.declared.transcript.Transcript.{Transcript}
use Rattle.session.specs.declared.transcript.End.TheVariants as end
use Rattle.session.proofs.Parts.{answers_append, history_front}
use Rattle.session.proofs.Served.{unanswered}
use Rattle.session.proofs.Closing.{closed_ends}
use Rattle.session.proofs.LineFronts.{lines_front, heard_front}
use Rattle.server.specs.Tickets.{ticket_of}
use Rattle.server.specs.LoneDesks.{Gives, GivesTicket}
use Rattle.server.specs.Lone.{commands_from}
use Rattle.server.specs.Served.{answers_in, IsSessionOf, IsEndBy, IsCutBy, IsUnserved}
use Rattle.server.specs.declared.fault.Fault.{Fault}
use Rattle.server.specs.declared.lone_desk.LoneDesk.{LoneDesk}

-- a session that ended by itself or with the input
abbrev IsOver : End → Type 0
IsOver ended = (ended ≡ end.Closed) ⊎ (ended ≡ end.HungUp)

all-written : (ended : End) (replies : List (List ℕ)) (written : List ℕ) → IsOver ended → IsWrittenBy ended replies written → written ≡ concat replies
all-written ended replies written (inl closed) some = subst (λ e. IsWrittenBy e replies written) closed some
all-written ended replies written (inr hung_up) some = subst (λ e. IsWrittenBy e replies written) hung_up some

all-taken : {A : Type 0} (accounts : List Account) (stamp : Stamp) (transcript : Transcript A) (written : List ℕ) → IsOver transcript.end → IsWritten accounts stamp transcript written → written ≡ concat (told accounts stamp transcript).replies
all-taken accounts stamp transcript written over (inl said) = all-written transcript.end (told accounts stamp transcript).replies written over said
all-taken accounts stamp transcript written over (inr all) = all.1

-- what a result that is no fault leads to
pub over_ok : {T E Q P : Type 0} (result : Result T E) → (IsOk result ↔ Q) → (Q → P) → OnOk result P
over_ok (Ok value) over leads = leads (over.0 (search rules))
over_ok (Err fault) over leads = tt

-- a fault by the end of a session that was served
pub cut_session : {T : Type 0} (result : Result T Fault) (accounts : List Account) (stamp : Stamp) (remaining remaining2 contents contents2 : Option (List ℕ)) (transcript : Transcript Global)
    → IsTranscript accounts stamp transcript → IsReadAndWritten accounts stamp transcript remaining remaining2 contents contents2 → IfErr result (λ reason. IsEndBy reason transcript.end)
    → IfErr result (λ reason. IsCutBy accounts stamp reason remaining remaining2 contents contents2)
cut_session (Ok value) accounts stamp remaining remaining2 contents contents2 transcript tells bytes by = tt
cut_session (Err reason) accounts stamp remaining remaining2 contents contents2 transcript tells bytes by = record { transcript = transcript; tells = tells; bytes = bytes; ended = by }

-- the same of the accounts and the timestamp of the options
pub cut_alone : {T W : Type 0} (result : Result T Fault) (old new : W) (accounts accounts2 : List Account) (stamp stamp2 : Stamp) (remaining remaining2 contents contents2 : Option (List ℕ))
    → accounts ≡ accounts2 → stamp ≡ stamp2 → IfErr result (λ reason. IsCutBy accounts stamp reason remaining remaining2 contents contents2)
    → IfErr result (λ reason. IsUnserved reason old new ⊎ IsCutBy accounts2 stamp2 reason remaining remaining2 contents contents2)
cut_alone (Ok value) old new accounts accounts2 stamp stamp2 remaining remaining2 contents contents2 known stamped cut = tt
cut_alone (Err reason) old new accounts accounts2 stamp stamp2 remaining remaining2 contents contents2 known stamped cut =
    let by_accounts : IsCutBy accounts2 stamp reason remaining remaining2 contents contents2 = subst (λ a. IsCutBy a stamp reason remaining remaining2 contents contents2) known cut in
    inr (subst (λ s. IsCutBy accounts2 s reason remaining remaining2 contents contents2) stamped by_accounts)

module _ {A : Type 0} where
  -- what entries asked, under the tickets from a number on
  abbrev commands_by : ℕ → List (Asked A) → List (Command A)
  commands_by number [] = []
  commands_by number (entry ∷ entries) = record { user = entry.name; ticket = ticket_of number; op = entry.op } ∷ commands_by (number + 1) entries

  commands_asked : (number : ℕ) (entries : List (Asked A)) → AreAnswered entries → commands_from number (requests_of entries) ≡ commands_by number entries
  commands_asked number [] answered = refl
  commands_asked number (entry ∷ entries) answered =
      let rest = commands_asked (number + 1) entries answered.1 in
      rw answered.0.asked_by (ap (λ commands. record { user = entry.name; ticket = ticket_of number; op = entry.op } ∷ commands) rest)

  -- one entry more: its answer, and those after it
  answer-first : (first next : LoneDesk A) (entry : Asked A) (ticket : Ticket) (outcome : Outcome A) (answers : List (Answer A)) (commands : List (Command A))
      → entry.ticket ≡ Some ticket → entry.outcome ≡ Some outcome → Gives first (given_of entry) next → answers ≡ answers_in next.office commands
      → record { ticket = ticket; outcome = outcome } ∷ answers ≡ answers_in first.office (record { user = entry.name; ticket = ticket_of first.next; op = entry.op } ∷ commands)
  answer-first first next entry ticket outcome answers commands ticketed answered gives rest =
      let given : GivesTicket first (given_of entry) next (Some ticket) = subst (λ t. GivesTicket first (given_of entry) next t) ticketed gives in
      let same : ticket ≡ ticket_of first.next = given.0 in
      let command : Ticket → Command A = λ t. record { user = entry.name; ticket = t; op = entry.op } in
      let office : next.office ≡ users_after first.office (command ticket) = given.1 in
      let said : outcome ≡ outcome_in first.office (command ticket) = subst (λ o. IfSome o (λ outcome. outcome ≡ outcome_in first.office (command ticket))) answered given.3 in
      let front : record { ticket = ticket; outcome = outcome } ∷ answers ≡ record { ticket = ticket; outcome = outcome_in first.office (command ticket) } ∷ answers_in (users_after first.office (command ticket)) commands =
      rw (rest, office, said) refl in
      subst (λ t. record { ticket = ticket; outcome = outcome } ∷ answers ≡ record { ticket = t; outcome = outcome_in first.office (command t) } ∷ answers_in (users_after first.office (command t)) commands) same front

  -- the desk's answers are those of the maildrop to these commands
  history-answers : (entries : List (Asked A)) (first last : LoneDesk A) → AreAnswered entries → IsHistory Gives first entries last → answers_of entries ≡ answers_in first.office (commands_by first.next entries)
  history-answers [] first last answered history = refl
  history-answers (entry ∷ entries) first last answered history =
      let one = answered.0 in
      let next = history.0 in
      let rest = history-answers entries next last answered.1 history.2 in
      let given : GivesTicket first (given_of entry) next (Some one.ticket) = subst (λ t. GivesTicket first (given_of entry) next t) one.ticketed history.1 in
      rw (one.ticketed, one.answered)
      (answer-first first next entry one.ticket one.outcome (answers_of entries) (commands_by (first.next + 1) entries) one.ticketed one.answered history.1 (rest ∙ ap (λ n. answers_in next.office (commands_by n entries)) given.2))

  all-answered : (ended : End) (state : State A) (entries : List (Asked A)) → IsOver ended → AreAnsweredAt ended state entries → AreAnswered entries
  all-answered ended state entries (inl closed) answered = subst (λ e. AreAnsweredAt e state entries) closed answered
  all-answered ended state entries (inr hung_up) answered = subst (λ e. AreAnsweredAt e state entries) hung_up answered

  pub session_served : (accounts : List Account) (stamp : Stamp) (desk last : LoneDesk A) (input rest : List ℕ) (contents contents2 : Option (List ℕ)) (transcript : Transcript A)
      → IsTranscript accounts stamp transcript → (bytes : IsReadAndWritten accounts stamp transcript (Some input) (Some rest) contents contents2) → IsHistory Gives desk transcript.asked last → IsOver transcript.end
      → IsSessionOf accounts stamp desk.next desk.office input bytes.written
  session_served accounts stamp desk last input rest contents contents2 transcript talk bytes given over =
      let entries = talk.entries in
      let is : input ≡ bytes.read ++ rest = bytes.consumed in
      let answered = all-answered transcript.end (told accounts stamp transcript).state entries over talk.answered in
      let history = history_front Gives entries talk.hangup desk last (subst (λ asked. IsHistory Gives desk asked last) talk.in_order given) in
      let own = commands_by desk.next entries in
      let hung : answers_of talk.hangup ≡ [] = unanswered (free_of (lock_due (told accounts stamp transcript).state)) talk.hangup talk.freed in
      let answers : answers_of transcript.asked ≡ answers_in desk.office own =
      ap answers_of talk.in_order ∙ answers_append entries talk.hangup ∙ ap (λ more. answers_of entries ++ more) hung ∙ append-nil (answers_of entries)
      ∙ history-answers entries desk history.0 answered history.1 in
      let lines : conversation accounts stamp (lines_of input) (answers_of transcript.asked) ≡ told accounts stamp transcript = elim over [
        | inl closed ↦
            let state : (told accounts stamp transcript).state ≡ Closed = subst (λ e. IsLeftBy e (told accounts stamp transcript).state) closed talk.left in
            let behind : IsPrefix transcript.lines (lines_of (bytes.read ++ rest)) = heard_front transcript.lines (lines_of bytes.read) (lines_of (bytes.read ++ rest)) bytes.heard (lines_front bytes.read rest) in
            rw (is, ← behind.1) (ap (with_reply (greeting stamp.nonce stamp.host)) (closed_ends accounts stamp 0 transcript.lines behind.0 opening (answers_of transcript.asked) state))
        | inr hung_up ↦
            let none : rest ≡ [] = bytes.at_end hung_up in
            let whole : transcript.lines ≡ lines_of input = bytes.heard_all (inl hung_up) ∙ ap lines_of (sym (is ∙ ap (λ more. bytes.read ++ more) none ∙ append-nil bytes.read)) in
            ap (λ lines. conversation accounts stamp lines (answers_of transcript.asked)) (sym whole)
      ] in
      let same : conversation accounts stamp (lines_of input) (answers_in desk.office own) ≡ told accounts stamp transcript =
      ap (λ answers. conversation accounts stamp (lines_of input) answers) (sym answers) ∙ lines in
      record {
        own = own;
        asked = sym (commands_asked desk.next entries answered) ∙ ap (λ asked. commands_from desk.next asked) talk.asked ∙ ap (λ (c : Conversation A). commands_from desk.next c.asked) (sym same);
        replied = all-taken accounts stamp transcript bytes.written over bytes.said ∙ ap (λ (c : Conversation A). concat c.replies) (sym same);
      }

  -- if the input is known, all of it was answered
  pub written_session : (accounts : List Account) (stamp : Stamp) (desk last : LoneDesk A) (remaining remaining2 contents contents2 : Option (List ℕ)) (transcript : Transcript A)
      → IsTranscript accounts stamp transcript → IsReadAndWritten accounts stamp transcript remaining remaining2 contents contents2 → IsHistory Gives desk transcript.asked last → IsOver transcript.end
      → IfSome remaining (λ input. (written : List ℕ) × IsSessionOf accounts stamp desk.next desk.office input written × Appends contents contents2 written)
  written_session accounts stamp desk last None remaining2 contents contents2 transcript talk bytes given over = tt
  written_session accounts stamp desk last (Some input) None contents contents2 transcript talk bytes given over = absurd bytes.consumed
  written_session accounts stamp desk last (Some input) (Some rest) contents contents2 transcript talk bytes given over =
      (bytes.written, session_served accounts stamp desk last input rest contents contents2 transcript talk bytes given over, bytes.appended)
