-- What is left of a session that was served: its next turn, and what the session says of it.
use Rattle.std.proofs.Common.{◌≡◌, ◌⊎◌, ℕ, suc, ◌+◌, ◌<◌, ◌≤◌, length, take, List, [], ◌∷◌, ◌++◌, Bool, true, false, Option, Some, None, refl, sym, ap, ◌∙◌, subst, inl, inr, ⊎_elim, cond, arith}
use Rattle.std.specs.Prelude.{⊤}
use Rattle.std.proofs.lemmas.Bool.{eq-eqb, ne_eqb, true≢false}
use Rattle.apop.specs.Stamp.{Stamp}
use Rattle.apop.specs.Accounts.{Account}
use Rattle.maildrop.specs.Ticket.{Ticket}
use Rattle.maildrop.specs.declared.op.Op.{Op}
use Rattle.maildrop.specs.declared.op.Op.TheVariants.{Free}
use Rattle.maildrop.specs.declared.outcome.Outcome.{Outcome}
use Rattle.node.specs.declared.input.Input.TheVariants.{Submit}
use Rattle.pop3_wire.specs.declared.line.Line.{Line}
use Rattle.session.specs.Calls.{said_by}
use Rattle.session.specs.Conversation.{Answer, Request, Rest, Conversation, silence, with_reply, with_asked, after_said, after_outcome, after_asked, after_heard, conversation_from}
use Rattle.session.specs.Dialogue.{IsSettled}
use Rattle.session.specs.Serve.{AreAnsweredAt, IsFreed}
use Rattle.session.specs.Session.{takes_line, awaits_answer, lock_due, free_of, by_line, by_answer}
use Rattle.session.specs.Transcript.{answer_by, answers_of, request_by, requests_of, IsAnsweredEntry, AreAnswered}
use Rattle.session.specs.declared.state.State.{State}
use Rattle.session.specs.declared.state.State.TheVariants.{Closed}
use Rattle.session.specs.declared.state.Step.{Step}
use Rattle.session.specs.declared.state.Step.TheVariants.{Say, Ask, SayAndClose}
use Rattle.session.specs.declared.state.Turn.{Turn}
use Rattle.session.specs.declared.transcript.Asked.{Asked}
use Rattle.session.specs.declared.transcript.End.{End}
use Rattle.session.specs.declared.transcript.End.TheVariants as end
use Rattle.session.proofs.Settled.{IsAnswering, line_settles, answer_settles, heard_awaits, awaiting}
use Rattle.audit.specs.Case.{Plain, Asks}
use Rattle.audit.specs.Runs.{line_ticket, line_tickets, EndsWithoutTicket}
use Rattle.audit.specs.Turns.{Turns, is_of_line, asks, turn_of, turns_from}

module _ {A : Type 0} where
  -- the turns that are left
  abbrev pub turns_left : ℕ → List Line → List (Asked A) → List (Asked A) → Turns A
  turns_left number lines entries hangup = turns_from number lines (entries ++ hangup)

  -- a turn that asks for an operation, which gets a ticket
  abbrev pub asks_then : Option Line → List ℕ → Op A → Ticket → Option (Outcome A) → Turns A → Turns A
  asks_then line user op ticket outcome turns = Asks line (Submit user op) (record { user = user; ticket = ticket }) outcome ∷ turns

  -- each of the entries was asked by a line, and each but the last was answered
  abbrev pub IsByLine : Asked A → Type 0
  IsByLine entry = (line : ℕ) × (entry.line ≡ Some line)

  abbrev pub AreAsked : List (Asked A) → Type 0
  AreAsked [] = ⊤
  AreAsked (entry ∷ []) = IsByLine entry
  AreAsked (entry ∷ next ∷ entries) = IsAnsweredEntry entry × AreAsked (next ∷ entries)

  first_asked : (entry : Asked A) (entries : List (Asked A)) → AreAsked (entry ∷ entries) → IsByLine entry
  first_asked entry [] h = h
  first_asked entry (next ∷ entries) h = let a = h.0 in (a.line, a.asked_by)

  asked_behind : (entry : Asked A) (entries : List (Asked A)) → AreAsked (entry ∷ entries) → AreAsked entries
  asked_behind entry [] h = tt
  asked_behind entry (next ∷ entries) h = h.1

  all_answered : (entries : List (Asked A)) → AreAnswered entries → AreAsked entries
  all_answered [] h = tt
  all_answered (entry ∷ []) h = let a = h.0 in (a.line, a.asked_by)
  all_answered (entry ∷ next ∷ entries) h = (h.0, all_answered (next ∷ entries) h.1)

  but_last : (front : List (Asked A)) (last : Asked A) → AreAnswered front → IsByLine last → AreAsked (front ++ last ∷ [])
  but_last [] last h by = by
  but_last (entry ∷ []) last h by = (h.0, by)
  but_last (entry ∷ next ∷ front) last h by = (h.0, but_last (next ∷ front) last h.1 by)

  pub asked_at : (ended : End) (state : State A) (entries : List (Asked A)) → AreAnsweredAt ended state entries → AreAsked entries
  asked_at end.Closed state entries h = all_answered entries h
  asked_at end.HungUp state entries h = all_answered entries h
  asked_at end.ReadFault state entries h = all_answered entries h
  asked_at end.WriteFault state entries h = all_answered entries h
  asked_at end.DeskStopped state entries h = subst AreAsked (sym h.in_order) (but_last h.front h.last h.answered (h.line, h.asked_by))
  asked_at end.Memory state entries h = all_answered entries h

  -- what a line asked is asked
  request_of : (entry : Asked A) (line : ℕ) → entry.line ≡ Some line → request_by entry.line entry.name entry.op ≡ record { line = line; user = entry.name; op = entry.op } ∷ []
  request_of entry line e = ap (λ l. request_by l entry.name entry.op) e

  none_asked : (entries : List (Asked A)) → AreAsked entries → requests_of entries ≡ [] → entries ≡ []
  none_asked [] h e = refl
  none_asked (entry ∷ entries) h e =
      let by = first_asked entry entries h in
      let same : record { line = by.0; user = entry.name; op = entry.op } ∷ requests_of entries ≡ [] = ap (λ rs. rs ++ requests_of entries) (sym (request_of entry by.0 by.1)) ∙ e in
      absurd (cc)

  -- the ticket and the outcome of an entry that isn't the last
  unanswered_last : (entry : Asked A) (entries : List (Asked A)) → AreAsked (entry ∷ entries) → answer_by entry.ticket entry.outcome ≡ [] → entries ≡ []
  unanswered_last entry [] h e = refl
  unanswered_last entry (next ∷ entries) h e =
      let a = h.0 in
      let answer : Answer A = record { ticket = a.ticket; outcome = a.outcome } in
      let same : answer ∷ [] ≡ [] = ap (λ o. answer_by (Some a.ticket) o) (sym a.answered) ∙ ap (λ t. answer_by t entry.outcome) (sym a.ticketed) ∙ e in
      absurd (cc)

  -- the Free of a hangup has no line, and no outcome that was taken
  pub freed_line : (free : Option (List ℕ × Op A)) (entry : Asked A) (entries : List (Asked A)) → IsFreed free (entry ∷ entries) → entry.line ≡ None
  freed_line None entry entries h = absurd (cc)
  freed_line (Some free) entry entries h = h.0

  pub freed_answers : (free : Option (List ℕ × Op A)) (hangup : List (Asked A)) → IsFreed free hangup → answers_of hangup ≡ []
  freed_answers free [] h = refl
  freed_answers None (entry ∷ entries) h = absurd (cc)
  freed_answers (Some free) (entry ∷ entries) h =
      ap (λ o. answer_by entry.ticket o ++ answers_of entries) h.3 ∙ ap (λ taken. taken ++ answers_of entries) (none entry.ticket) ∙ ap answers_of h.4
    where
      none : (ticket : Option Ticket) → answer_by {A = A} ticket None ≡ []
      none None = refl
      none (Some ticket) = refl

  pub freed_tickets : (free : Option (List ℕ × Op A)) (hangup : List (Asked A)) → IsFreed free hangup → line_tickets hangup ≡ []
  freed_tickets free [] h = refl
  freed_tickets None (entry ∷ entries) h = absurd (cc)
  freed_tickets (Some free) (entry ∷ entries) h = ap (λ l. line_ticket l entry.ticket ++ line_tickets entries) h.0 ∙ ap line_tickets h.4

  freed_none : (free : Option (List ℕ × Op A)) (hangup : List (Asked A)) → free ≡ None → IsFreed free hangup → hangup ≡ []
  freed_none None hangup e h = h
  freed_none (Some free) hangup e h = absurd (cc)

  -- an answer that is awaited
  unheard : (state : State A) → awaits_answer state ≡ true → takes_line state ≡ true → ⊥
  unheard state waits heard = true≢false (sym waits ∙ heard_awaits state heard)

module _ {A : Type 0} (accounts : List Account) (stamp : Stamp) where
  abbrev pub talks : ℕ → List Line → State A → List (Answer A) → Conversation A
  talks number lines state answers = conversation_from accounts stamp number lines state answers

  -- these lines, the first of this number, these entries and a hangup are the rest of a session that is in this state
  pub record IsRest (number : ℕ) (lines : List Line) (entries hangup : List (Asked A)) (state : State A) : Type 0 where
    pub is_open : (takes_line state ≡ true) ⊎ (state ≡ Closed)
    pub heard : (n : ℕ) → n < length lines → takes_line (talks number (take n lines) state (answers_of entries)).state ≡ true
    pub asked : requests_of entries ≡ (talks number lines state (answers_of entries)).asked
    pub answered : AreAsked entries
    pub freed : IsFreed (free_of (lock_due (talks number lines state (answers_of entries)).state)) hangup

  -- what is still to be said
  abbrev pub replies_left : ℕ → List Line → List (Asked A) → State A → List (List ℕ)
  replies_left number lines entries state = (talks number lines state (answers_of entries)).replies

  module _ (number : ℕ) (lines : List Line) (entries hangup : List (Asked A)) (state : State A) where
    -- no turn is left
    pub record IsOver : Type 0 where
      pub turns : turns_left number lines entries hangup ≡ []
      pub replies : replies_left number lines entries state ≡ []
      pub tickets : line_tickets entries ≡ []
      pub no_line : (lines ≡ []) ⊎ ((last : Line) × (lines ≡ last ∷ []) × EndsWithoutTicket (entries ++ hangup))

    -- the session's client is gone, and its lock is given back
    pub record Frees : Type 0 where
      pub user : List ℕ
      pub lock : Ticket
      pub ticket : Ticket
      pub due : lock_due state ≡ Some (user, lock)
      pub heard : takes_line state ≡ true
      pub turns : turns_left number lines entries hangup ≡ asks_then None user (Free lock) ticket None []
      pub replies : replies_left number lines entries state ≡ []
      pub tickets : line_tickets entries ≡ []
      pub no_line : lines ≡ []

    -- a line is answered, or closes the session
    pub record Says : Type 0 where
      pub line : Line
      pub more : List Line
      pub bytes : List ℕ
      pub lines_are : lines ≡ line ∷ more
      pub heard : takes_line state ≡ true
      pub step : ((by_line accounts stamp state line).step ≡ Say bytes) ⊎ ((by_line accounts stamp state line).step ≡ SayAndClose bytes)
      pub rest : IsRest (number + 1) more entries hangup (by_line accounts stamp state line).state
      pub turns : turns_left number lines entries hangup ≡ Plain line ∷ turns_left (number + 1) more entries hangup
      pub replies : replies_left number lines entries state ≡ bytes ∷ replies_left (number + 1) more entries (by_line accounts stamp state line).state

    -- the last line asks, and the session takes no answer
    pub record AsksLast : Type 0 where
      pub line : Line
      pub user : List ℕ
      pub op : Op A
      pub ticket : Ticket
      pub outcome : Option (Outcome A)
      pub lines_are : lines ≡ line ∷ []
      pub heard : takes_line state ≡ true
      pub step : (by_line accounts stamp state line).step ≡ Ask user op
      pub turns : turns_left number lines entries hangup ≡ asks_then (Some line) user op ticket outcome []
      pub replies : replies_left number lines entries state ≡ []
      pub tickets : line_tickets entries ≡ ticket ∷ []

    -- a line asks, and the session takes the answer
    pub record AsksOn : Type 0 where
      pub line : Line
      pub more : List Line
      pub user : List ℕ
      pub op : Op A
      pub ticket : Ticket
      pub outcome : Outcome A
      pub turn : Turn A
      pub behind : List (Asked A)
      pub lines_are : lines ≡ line ∷ more
      pub heard : takes_line state ≡ true
      pub step : (by_line accounts stamp state line).step ≡ Ask user op
      pub fits : by_answer (by_line accounts stamp state line).state ticket outcome ≡ Some turn
      pub rest : IsRest (number + 1) more behind hangup turn.state
      pub turns : turns_left number lines entries hangup ≡ asks_then (Some line) user op ticket (Some outcome) (turns_left (number + 1) more behind hangup)
      pub replies : replies_left number lines entries state ≡ said_by turn.step ++ replies_left (number + 1) more behind turn.state
      pub tickets : line_tickets entries ≡ ticket ∷ line_tickets behind
      pub ends : EndsWithoutTicket (behind ++ hangup) → EndsWithoutTicket (entries ++ hangup)

    -- what comes next of a session
    pub data Next : Type 0 where
      Over : IsOver → Next
      Freed : Frees → Next
      Said : Says → Next
      AskedLast : AsksLast → Next
      AskedOn : AsksOn → Next

  -- what a line brings that is heard
  heard_line : (number : ℕ) (line : Line) (more : List Line) (state : State A) (answers : List (Answer A)) (step : Step A) → takes_line state ≡ true → (by_line accounts stamp state line).step ≡ step
      → talks number (line ∷ more) state answers ≡ after_heard (talks (number + 1) more) number (by_line accounts stamp state line).state answers step
  heard_line number line more state answers step heard e = rw (heard, e) refl

  -- what is asked is asked by lines from the first on
  abbrev AreFrom : ℕ → List (Request A) → Type 0
  AreFrom number [] = ⊤
  AreFrom number (request ∷ requests) = (number ≤ request.line) × AreFrom number requests

  from_before : (number : ℕ) (requests : List (Request A)) → AreFrom (number + 1) requests → AreFrom number requests
  from_before number [] h = tt
  from_before number (request ∷ requests) h = let above = h.0 in (omega (arith, above), from_before number requests h.1)

  said_from : (number : ℕ) (rest : Rest A) → ((state : State A) (answers : List (Answer A)) → AreFrom number (rest state answers).asked) → (state : State A) (answers : List (Answer A)) (step : Step A) → AreFrom number (after_said rest state answers step).asked
  said_from number rest h state answers (Say bytes) = h state answers
  said_from number rest h state answers (SayAndClose bytes) = h state answers
  said_from number rest h state answers (Ask user op) = h state answers

  answer_from : (number : ℕ) (rest : Rest A) → ((state : State A) (answers : List (Answer A)) → AreFrom number (rest state answers).asked) → (state : State A) (answers : List (Answer A)) (turn : Option (Turn A)) → AreFrom number (after_outcome rest state turn answers).asked
  answer_from number rest h state answers None = h state answers
  answer_from number rest h state answers (Some turn) = said_from number rest h turn.state answers turn.step

  asked_from : (number : ℕ) (rest : Rest A) → ((state : State A) (answers : List (Answer A)) → AreFrom number (rest state answers).asked) → (state : State A) (answers : List (Answer A)) → AreFrom number (after_asked rest state answers).asked
  asked_from number rest h state [] = tt
  asked_from number rest h state (answer ∷ answers) = answer_from number rest h state answers (by_answer state answer.ticket answer.outcome)

  line_from : (number : ℕ) (rest : Rest A) → ((state : State A) (answers : List (Answer A)) → AreFrom number (rest state answers).asked) → (state : State A) (answers : List (Answer A)) (step : Step A) → AreFrom number (after_heard rest number state answers step).asked
  line_from number rest h state answers (Say bytes) = h state answers
  line_from number rest h state answers (SayAndClose bytes) = h state answers
  line_from number rest h state answers (Ask user op) = (omega arith, asked_from number rest h state answers)

  talks_from : (number : ℕ) (lines : List Line) (state : State A) (answers : List (Answer A)) → AreFrom number (talks number lines state answers).asked
  talks_from number [] state answers = tt
  talks_from number (line ∷ lines) state answers =
      go (λ state answers. from_before number (talks (number + 1) lines state answers).asked (talks_from (number + 1) lines state answers)) (takes_line state)
    where
      go : ((state : State A) (answers : List (Answer A)) → AreFrom number (talks (number + 1) lines state answers).asked) → (t : Bool)
          → AreFrom number (cond t (after_heard (talks (number + 1) lines) number (by_line accounts stamp state line).state answers (by_line accounts stamp state line).step) (silence state)).asked
      go later true = line_from number (talks (number + 1) lines) later (by_line accounts stamp state line).state answers (by_line accounts stamp state line).step
      go later false = tt

  -- a line that asks nothing is a turn of its own
  plain_turn : (number : ℕ) (line : Line) (more : List Line) (entries hangup : List (Asked A)) (free : Option (List ℕ × Op A)) → AreAsked entries → AreFrom (number + 1) (requests_of entries) → IsFreed free hangup
      → turns_left number (line ∷ more) entries hangup ≡ Plain line ∷ turns_left (number + 1) more entries hangup
  plain_turn number line more entries hangup free asked from freed =
      go entries hangup asked from freed ∙ ap (λ k. Plain line ∷ turns_left k more entries hangup) same
    where
      same : suc number ≡ number + 1
      same = omega arith

      not_of : (entry : Asked A) (rest : List (Asked A)) → is_of_line number entry.line ≡ false → turn_of number line (turns_from (suc number) more) (entry ∷ rest) ≡ Plain line ∷ turns_from (suc number) more (entry ∷ rest)
      not_of entry rest e = rw e refl

      go : (entries hangup : List (Asked A)) → AreAsked entries → AreFrom (number + 1) (requests_of entries) → IsFreed free hangup → turn_of number line (turns_from (suc number) more) (entries ++ hangup) ≡ Plain line ∷ turns_from (suc number) more (entries ++ hangup)
      go [] [] asked from freed = refl
      go [] (entry ∷ hangup) asked from freed = not_of entry hangup (ap (is_of_line number) (freed_line free entry hangup freed))
      go (entry ∷ entries) hangup asked from freed =
          let by = first_asked entry entries asked in
          let first : AreFrom (number + 1) (record { line = by.0; user = entry.name; op = entry.op } ∷ requests_of entries) = subst (λ rs. AreFrom (number + 1) (rs ++ requests_of entries)) (request_of entry by.0 by.1) from in
          let above : number + 1 ≤ by.0 = first.0 in
          let other : number ≡ by.0 → ⊥ = λ e. omega (arith, above, e) in
          not_of entry (entries ++ hangup) (ap (is_of_line number) by.1 ∙ ne_eqb number by.0 other)

  -- after the last line
  next_none : (number : ℕ) (entries hangup : List (Asked A)) (state : State A) → IsRest number [] entries hangup state → Next number [] entries hangup state
  next_none number entries hangup state rest =
      go entries (none_asked entries rest.answered rest.asked) hangup rest.freed
    where
      due_heard : (takes_line state ≡ true) ⊎ (state ≡ Closed) → (due : List ℕ × Ticket) → lock_due state ≡ Some due → takes_line state ≡ true
      due_heard (inl heard) due e = heard
      due_heard (inr closed) due e = let none : None ≡ Some due = sym (ap lock_due closed) ∙ e in absurd (cc)

      leaves : (entry : Asked A) (ticket : Option Ticket) (due : Option (List ℕ × Ticket)) → lock_due state ≡ due → entry.ticket ≡ ticket → IsFreed (free_of due) (entry ∷ []) → Next number [] [] (entry ∷ []) state
      leaves entry ticket None e t freed = absurd (cc)
      leaves entry None (Some due) e t freed = Over (record { turns = rw t refl; replies = refl; tickets = refl; no_line = inl refl })
      leaves entry (Some ticket) (Some due) e t freed =
          Freed (record {
            user = due.0;
            lock = due.1;
            ticket = ticket;
            due = e;
            heard = due_heard rest.is_open due e;
            turns = rw (t, freed.1, freed.2, freed.3) refl;
            replies = refl;
            tickets = refl;
            no_line = refl;
          })

      one : (entry : Asked A) (entries : List (Asked A)) (free : Option (List ℕ × Op A)) → IsFreed free (entry ∷ entries) → entries ≡ []
      one entry entries None h = absurd (cc)
      one entry entries (Some free) h = h.4

      go : (entries : List (Asked A)) → entries ≡ [] → (hangup : List (Asked A)) → IsFreed (free_of (lock_due state)) hangup → Next number [] entries hangup state
      go (entry ∷ entries) e hangup freed = absurd (cc)
      go [] e [] freed = Over (record { turns = refl; replies = refl; tickets = refl; no_line = inl refl })
      go [] e (entry ∷ []) freed = leaves entry entry.ticket (lock_due state) refl refl freed
      go [] e (entry ∷ other ∷ hangup) freed = let none = one entry (other ∷ hangup) (free_of (lock_due state)) freed in absurd (cc)

  -- A line is answered, or closes the session.
  module _ (number : ℕ) (line : Line) (state : State A) (heard : takes_line state ≡ true) (bytes : List ℕ)
      (step : ((by_line accounts stamp state line).step ≡ Say bytes) ⊎ ((by_line accounts stamp state line).step ≡ SayAndClose bytes)) where
    said_line : (more : List Line) (answers : List (Answer A)) → talks number (line ∷ more) state answers ≡ with_reply bytes (talks (number + 1) more (by_line accounts stamp state line).state answers)
    said_line more answers =
        ⊎_elim (λ e. heard_line number line more state answers (Say bytes) heard e) (λ e. heard_line number line more state answers (SayAndClose bytes) heard e) step

    open_then : (takes_line (by_line accounts stamp state line).state ≡ true) ⊎ ((by_line accounts stamp state line).state ≡ Closed)
    open_then =
        ⊎_elim
        (λ e. inl (subst (λ st. IsSettled st (by_line accounts stamp state line).state) e (line_settles accounts stamp state line heard)))
        (λ e. inr (subst (λ st. IsSettled st (by_line accounts stamp state line).state) e (line_settles accounts stamp state line heard)))
        step

    next_said : (more : List Line) (entries hangup : List (Asked A)) → IsRest number (line ∷ more) entries hangup state → Says number (line ∷ more) entries hangup state
    next_said more entries hangup rest =
        record {
          line = line;
          more = more;
          bytes = bytes;
          lines_are = refl;
          heard = heard;
          step = step;
          rest = record {
            is_open = open_then;
            heard = λ n few. ap (λ (c : Conversation A). takes_line c.state) (sym (said_line (take n more) (answers_of entries))) ∙ rest.heard (suc n) (omega (arith, few));
            asked = asked;
            answered = rest.answered;
            freed = freed;
          };
          turns = plain_turn number line more entries hangup (free_of (lock_due (talks (number + 1) more (by_line accounts stamp state line).state (answers_of entries)).state)) rest.answered
              (subst (AreFrom (number + 1)) (sym asked) (talks_from (number + 1) more (by_line accounts stamp state line).state (answers_of entries))) freed;
          replies = ap (λ (c : Conversation A). c.replies) (said_line more (answers_of entries));
        }
      where
        asked : requests_of entries ≡ (talks (number + 1) more (by_line accounts stamp state line).state (answers_of entries)).asked
        asked = rest.asked ∙ ap (λ (c : Conversation A). c.asked) (said_line more (answers_of entries))

        freed : IsFreed (free_of (lock_due (talks (number + 1) more (by_line accounts stamp state line).state (answers_of entries)).state)) hangup
        freed = subst (λ (c : Conversation A). IsFreed (free_of (lock_due c.state)) hangup) (said_line more (answers_of entries)) rest.freed

  not_heard : (state : State A) → awaits_answer state ≡ true → takes_line state ≡ false
  not_heard state waits =
      go (takes_line state) refl
    where
      go : (t : Bool) → takes_line state ≡ t → t ≡ false
      go true e = absurd (unheard state waits e)
      go false e = refl

  silent : (number : ℕ) (lines : List Line) (state : State A) (answers : List (Answer A)) → awaits_answer state ≡ true → talks number lines state answers ≡ silence state
  silent number [] state answers waits = refl
  silent number (line ∷ lines) state answers waits = rw (not_heard state waits) refl

  said_is : (rest : Rest A) (state : State A) (answers : List (Answer A)) (step : Step A)
      → after_said rest state answers step ≡ record { replies = said_by step ++ (rest state answers).replies; asked = (rest state answers).asked; state = (rest state answers).state }
  said_is rest state answers (Say bytes) = refl
  said_is rest state answers (SayAndClose bytes) = refl
  said_is rest state answers (Ask user op) = refl

  open_after : (step : Step A) (state : State A) → IsSettled step state → awaits_answer state ≡ false → (takes_line state ≡ true) ⊎ (state ≡ Closed)
  open_after (Say bytes) state settled over = inl settled
  open_after (SayAndClose bytes) state settled over = inr settled
  open_after (Ask user op) state settled over = absurd (true≢false (sym settled ∙ over))

  -- A line asks for an operation.
  module _ (number : ℕ) (line : Line) (state : State A) (heard : takes_line state ≡ true) (user : List ℕ) (op : Op A)
      (step : (by_line accounts stamp state line).step ≡ Ask user op) where
    abbrev request : Request A
    request = record { line = number; user = user; op = op }

    waits : awaits_answer (by_line accounts stamp state line).state ≡ true
    waits = subst (λ st. IsSettled st (by_line accounts stamp state line).state) step (line_settles accounts stamp state line heard)

    asks_line : (more : List Line) (answers : List (Answer A)) → talks number (line ∷ more) state answers ≡ with_asked request (after_asked (talks (number + 1) more) (by_line accounts stamp state line).state answers)
    asks_line more answers = heard_line number line more state answers (Ask user op) heard step

    -- the first entry is that of the line
    record IsItsEntry (entry : Asked A) : Type 0 where
      its_line : entry.line ≡ Some number
      name : entry.name ≡ user
      its_op : entry.op ≡ op

    its_turn : (entry : Asked A) (more : List Line) (behind : List (Asked A)) → IsItsEntry entry → turn_of number line (turns_from (suc number) more) (entry ∷ behind) ≡ asks (Some line) entry ++ turns_from (suc number) more behind
    its_turn entry more behind its =
        let is : is_of_line number entry.line ≡ true = ap (is_of_line number) its.its_line ∙ eq-eqb number number refl in
        rw is refl

    first_entry : (entry : Asked A) (entries : List (Asked A)) (rest : List (Request A)) → AreAsked (entry ∷ entries) → requests_of (entry ∷ entries) ≡ request ∷ rest → IsItsEntry entry × (requests_of entries ≡ rest)
    first_entry entry entries rest asked e =
        let by = first_asked entry entries asked in
        let same : record { line = by.0; user = entry.name; op = entry.op } ∷ requests_of entries ≡ request ∷ rest = ap (λ rs. rs ++ requests_of entries) (sym (request_of entry by.0 by.1)) ∙ e in
        let head : record { line = by.0; user = entry.name; op = entry.op } ≡ request = cc in
        let tail : requests_of entries ≡ rest = cc in
        let at : by.0 ≡ number = ap (λ (r : Request A). r.line) head in (
          record { its_line = by.1 ∙ ap (λ l. Some l) at; name = ap (λ (r : Request A). r.user) head; its_op = ap (λ (r : Request A). r.op) head },
          tail,
        )

    -- no answer is taken: it is the last line
    stuck : (more : List Line) (entry : Asked A) (entries hangup : List (Asked A)) → IsRest number (line ∷ more) (entry ∷ entries) hangup state
        → ((m : List Line) → talks number (line ∷ m) state (answers_of (entry ∷ entries)) ≡ with_asked request (silence (by_line accounts stamp state line).state))
        → Next number (line ∷ more) (entry ∷ entries) hangup state
    stuck more entry entries hangup rest quiet =
        go more (no_more more rest) entries (none_asked entries (asked_behind entry entries rest.answered) its.1) hangup no_hangup (quiet more) entry.ticket refl
      where
        its : IsItsEntry entry × (requests_of entries ≡ [])
        its = first_entry entry entries [] rest.answered (rest.asked ∙ ap (λ (c : Conversation A). c.asked) (quiet more))

        no_hangup : hangup ≡ []
        no_hangup =
            freed_none (free_of (lock_due (by_line accounts stamp state line).state)) hangup (ap free_of (awaiting (by_line accounts stamp state line).state waits).1)
            (subst (λ (c : Conversation A). IsFreed (free_of (lock_due c.state)) hangup) (quiet more) rest.freed)

        no_more : (more : List Line) → IsRest number (line ∷ more) (entry ∷ entries) hangup state → more ≡ []
        no_more [] rest = refl
        no_more (other ∷ more) rest =
            absurd (unheard (by_line accounts stamp state line).state waits (ap (λ (c : Conversation A). takes_line c.state) (sym (quiet [])) ∙ rest.heard 1 (omega arith)))

        go : (more : List Line) → more ≡ [] → (entries : List (Asked A)) → entries ≡ [] → (hangup : List (Asked A)) → hangup ≡ []
            → talks number (line ∷ more) state (answers_of (entry ∷ entries)) ≡ with_asked request (silence (by_line accounts stamp state line).state)
            → (ticket : Option Ticket) → entry.ticket ≡ ticket → Next number (line ∷ more) (entry ∷ entries) hangup state
        go (other ∷ more) e entries f hangup h talk ticket t = absurd (cc)
        go [] e (next ∷ entries) f hangup h talk ticket t = absurd (cc)
        go [] e [] f (next ∷ hangup) h talk ticket t = absurd (cc)
        go [] e [] f [] h talk None t =
            Over (record {
              turns = its_turn entry [] [] its.0 ∙ rw t refl;
              replies = ap (λ (c : Conversation A). c.replies) talk;
              tickets = rw (its.0.its_line, t) refl;
              no_line = inr (line, refl, record { front = []; last = entry; in_order = refl; no_ticket = t });
            })
        go [] e [] f [] h talk (Some ticket) t =
            AskedLast (record {
              line = line;
              user = user;
              op = op;
              ticket = ticket;
              outcome = entry.outcome;
              lines_are = refl;
              heard = heard;
              step = step;
              turns = its_turn entry [] [] its.0 ∙ rw (t, its.0.name, its.0.its_op) refl;
              replies = ap (λ (c : Conversation A). c.replies) talk;
              tickets = rw (its.0.its_line, t) refl;
            })

    -- an entry without a ticket or an outcome
    unanswered : (more : List Line) (entry : Asked A) (entries hangup : List (Asked A)) → IsRest number (line ∷ more) (entry ∷ entries) hangup state → answer_by entry.ticket entry.outcome ≡ []
        → Next number (line ∷ more) (entry ∷ entries) hangup state
    unanswered more entry entries hangup rest none =
        go entries (unanswered_last entry entries rest.answered none) rest
      where
        go : (entries : List (Asked A)) → entries ≡ [] → IsRest number (line ∷ more) (entry ∷ entries) hangup state → Next number (line ∷ more) (entry ∷ entries) hangup state
        go (next ∷ entries) e rest = absurd (cc)
        go [] e rest =
            stuck more entry [] hangup rest (λ m. ap (λ taken. talks number (line ∷ m) state (taken ++ [])) none ∙ asks_line m [])

    -- an entry with a ticket and an outcome
    answered_with : (more : List Line) (entry : Asked A) (entries hangup : List (Asked A)) → IsRest number (line ∷ more) (entry ∷ entries) hangup state → (ticket : Ticket) → entry.ticket ≡ Some ticket → (outcome : Outcome A) → entry.outcome ≡ Some outcome
        → Next number (line ∷ more) (entry ∷ entries) hangup state
    answered_with more entry entries hangup rest ticket t outcome o =
        go (by_answer (by_line accounts stamp state line).state ticket outcome) refl
      where
        same : suc number ≡ number + 1
        same = omega arith

        taken : answers_of (entry ∷ entries) ≡ record { ticket = ticket; outcome = outcome } ∷ answers_of entries
        taken = rw (t, o) refl

        talk : (found : Option (Turn A)) → by_answer (by_line accounts stamp state line).state ticket outcome ≡ found → (m : List Line)
            → talks number (line ∷ m) state (answers_of (entry ∷ entries)) ≡ with_asked request (after_outcome (talks (number + 1) m) (by_line accounts stamp state line).state found (answers_of entries))
        talk found e m =
            ap (talks number (line ∷ m) state) taken ∙ asks_line m (record { ticket = ticket; outcome = outcome } ∷ answers_of entries)
            ∙ ap (λ f. with_asked request (after_outcome (talks (number + 1) m) (by_line accounts stamp state line).state f (answers_of entries))) e

        go : (found : Option (Turn A)) → by_answer (by_line accounts stamp state line).state ticket outcome ≡ found → Next number (line ∷ more) (entry ∷ entries) hangup state
        go None e =
            stuck more entry entries hangup rest (λ m. talk None e m ∙ ap (with_asked request) (silent (number + 1) m (by_line accounts stamp state line).state (answers_of entries) waits))
        go (Some turn) e =
            AskedOn (record {
              line = line;
              more = more;
              user = user;
              op = op;
              ticket = ticket;
              outcome = outcome;
              turn = turn;
              behind = entries;
              lines_are = refl;
              heard = heard;
              step = step;
              fits = e;
              rest = record {
                is_open = open_after turn.step turn.state settled.settles settled.says;
                heard = λ n few. ap (λ (c : Conversation A). takes_line c.state) (sym (says (take n more))) ∙ rest.heard (suc n) (omega (arith, few));
                asked = its.1;
                answered = asked_behind entry entries rest.answered;
                freed = subst (λ (c : Conversation A). IsFreed (free_of (lock_due c.state)) hangup) (says more) rest.freed;
              };
              turns = its_turn entry more (entries ++ hangup) its.0 ∙ rw (t, o, its.0.name, its.0.its_op) (ap (λ k. asks_then (Some line) user op ticket (Some outcome) (turns_from k more (entries ++ hangup))) same);
              replies = ap (λ (c : Conversation A). c.replies) (says more);
              tickets = rw (its.0.its_line, t) refl;
              ends = λ x. record { front = entry ∷ x.front; last = x.last; in_order = ap (λ xs. entry ∷ xs) x.in_order; no_ticket = x.no_ticket };
            })
          where
            settled : IsAnswering (by_line accounts stamp state line).state ticket outcome turn
            settled = answer_settles (by_line accounts stamp state line).state ticket outcome turn e

            says : (m : List Line) → talks number (line ∷ m) state (answers_of (entry ∷ entries)) ≡ with_asked request (record {
              replies = said_by turn.step ++ (talks (number + 1) m turn.state (answers_of entries)).replies;
              asked = (talks (number + 1) m turn.state (answers_of entries)).asked;
              state = (talks (number + 1) m turn.state (answers_of entries)).state;
            })
            says m = talk (Some turn) e m ∙ ap (with_asked request) (said_is (talks (number + 1) m) turn.state (answers_of entries) turn.step)

            its : IsItsEntry entry × (requests_of entries ≡ (talks (number + 1) more turn.state (answers_of entries)).asked)
            its = first_entry entry entries _ rest.answered (rest.asked ∙ ap (λ (c : Conversation A). c.asked) (says more))

    next_asked : (more : List Line) (entries hangup : List (Asked A)) → IsRest number (line ∷ more) entries hangup state → Next number (line ∷ more) entries hangup state
    next_asked more [] hangup rest =
        let none : [] ≡ request ∷ (after_asked (talks (number + 1) more) (by_line accounts stamp state line).state []).asked = rest.asked ∙ ap (λ (c : Conversation A). c.asked) (asks_line more []) in
        absurd (cc)
    next_asked more (entry ∷ entries) hangup rest =
        go entry.ticket refl entry.outcome refl
      where
        none_by : (outcome : Option (Outcome A)) → answer_by None outcome ≡ []
        none_by None = refl
        none_by (Some outcome) = refl

        go : (ticket : Option Ticket) → entry.ticket ≡ ticket → (outcome : Option (Outcome A)) → entry.outcome ≡ outcome → Next number (line ∷ more) (entry ∷ entries) hangup state
        go None t outcome o = unanswered more entry entries hangup rest (ap (λ x. answer_by x entry.outcome) t ∙ none_by entry.outcome)
        go (Some ticket) t None o = unanswered more entry entries hangup rest (ap (λ x. answer_by x entry.outcome) t ∙ ap (answer_by (Some ticket)) o)
        go (Some ticket) t (Some outcome) o = answered_with more entry entries hangup rest ticket t outcome o

  -- what comes next
  pub next : (number : ℕ) (lines : List Line) (entries hangup : List (Asked A)) (state : State A) → IsRest number lines entries hangup state → Next number lines entries hangup state
  next number [] entries hangup state rest = next_none number entries hangup state rest
  next number (line ∷ more) entries hangup state rest =
      go (by_line accounts stamp state line).step refl
    where
      heard : takes_line state ≡ true
      heard = rest.heard 0 (omega arith)

      go : (step : Step A) → (by_line accounts stamp state line).step ≡ step → Next number (line ∷ more) entries hangup state
      go (Say bytes) e = Said (next_said number line state heard bytes (inl e) more entries hangup rest)
      go (SayAndClose bytes) e = Said (next_said number line state heard bytes (inr e) more entries hangup rest)
      go (Ask user op) e = next_asked number line state heard user op e more entries hangup rest
