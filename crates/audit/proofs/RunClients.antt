-- A client of a run, beside the transcript of its session: where it is, and what each turn makes of it.
use Rattle.std.proofs.Common.{◌≡◌, ◌⊎◌, ℕ, ◌+◌, List, [], ◌∷◌, ◌++◌, Bool, true, false, Option, Some, None, refl, sym, ap, ◌∙◌, subst, inl, inr, ⊎_elim, cond, append_assoc}
use Rattle.std.specs.List.{concat}
use Rattle.std.proofs.lemmas.Bool.{true≢false}
use Rattle.std.proofs.lemmas.List.{append-nil}
use Rattle.apop.specs.Stamp.{Stamp}
use Rattle.apop.specs.Accounts.{Account}
use Rattle.maildrop.specs.CommandId.{CommandId}
use Rattle.maildrop.specs.Ticket.{Ticket}
use Rattle.maildrop.specs.declared.op.Op.{Op}
use Rattle.maildrop.specs.declared.op.Op.TheVariants.{Free}
use Rattle.maildrop.specs.declared.outcome.Outcome.{Outcome}
use Rattle.node.specs.declared.input.Input.{Input}
use Rattle.node.specs.declared.input.Input.TheVariants.{Submit}
use Rattle.pop3_wire.specs.declared.line.Line.{Line}
use Rattle.pop3_wire.specs.Reply as reply
use Rattle.session.specs.Calls.{said_by}
use Rattle.session.specs.Conversation.{conversation_from}
use Rattle.session.specs.Dialogue.{IsSettled}
use Rattle.session.specs.Prefix.{IsPrefix}
use Rattle.session.specs.Serve.{IsTranscript, IsFreed, told as told_by}
use Rattle.session.specs.Session.{opening, takes_line, lock_due, free_of, by_line, by_answer}
use Rattle.session.specs.Transcript.{answers_of}
use Rattle.session.specs.declared.state.State.{State}
use Rattle.session.specs.declared.state.State.TheVariants.{Closed}
use Rattle.session.specs.declared.state.Step.{Step}
use Rattle.session.specs.declared.state.Step.TheVariants.{Say, Ask, SayAndClose}
use Rattle.session.specs.declared.state.Turn.{Turn}
use Rattle.session.specs.declared.transcript.Asked.{Asked}
use Rattle.session.specs.declared.transcript.Transcript.{Transcript}
use Rattle.session.proofs.Parts.{answers_append}
use Rattle.session.proofs.Settled.{line_settles, answer_settles}
use Rattle.runs.specs.Clients.{Standing, Hears, Waits, Over, Client, new_client, standing_as, told, with_line, asking}
use Rattle.runs.specs.Services.{after_answer, by_turn}
use Rattle.runs.proofs.Prefixes.{prefix_on, front_of}
use Rattle.audit.specs.Case.{Plain, Asks}
use Rattle.audit.specs.Order.{Awaited}
use Rattle.audit.specs.Runs.{line_tickets, line_ticket, EndsWithoutTicket, AreItsLines}
use Rattle.audit.specs.Turns.{Turns, turns_from, is_blank, script_of}
use Rattle.audit.proofs.Rests as rests
use Rattle.audit.proofs.Rests.{turns_left, asks_then, talks, replies_left, IsRest, Next, IsOver, Frees, Says, AsksLast, AsksOn, next, asked_at, freed_answers, freed_tickets}

module _ {A : Type 0} where
  -- how a session stands that awaits no answer
  abbrev pub standing_in : State A → Standing A
  standing_in state = cond (takes_line state) (Hears state) Over

  in_hearing : (state : State A) → takes_line state ≡ true → standing_in state ≡ Hears state
  in_hearing state heard = rw heard refl

  in_closed : (state : State A) → state ≡ Closed → standing_in state ≡ Over
  in_closed state closed = ap standing_in closed

  tickets_append : (xs ys : List (Asked A)) → line_tickets (xs ++ ys) ≡ line_tickets xs ++ line_tickets ys
  tickets_append [] ys = refl
  tickets_append (x ∷ xs) ys = ap (λ ts. line_ticket x.line x.ticket ++ ts) (tickets_append xs ys) ∙ sym (append_assoc (line_ticket x.line x.ticket) (line_tickets xs) (line_tickets ys))

module _ {A : Type 0} (accounts : List Account) (stamp : Stamp) (t : Transcript A) where
  abbrev pub all_told : List ℕ
  all_told = concat (told_by accounts stamp t).replies

  -- a session that awaits no answer, and how its client stands while its node is up
  pub record Goes (up : Type 0) (left : Turns A) (c : Client A) : Type 0 where
    pub number : ℕ
    pub lines : List Line
    pub entries : List (Asked A)
    pub hangup : List (Asked A)
    pub state : State A
    pub rest : IsRest accounts stamp number lines entries hangup state
    pub turns : left ≡ turns_left number lines entries hangup
    pub its_lines : c.lines ++ lines ≡ t.lines
    pub its_tickets : c.tickets ++ line_tickets entries ≡ line_tickets t.asked
    pub ends : EndsWithoutTicket (entries ++ hangup) → EndsWithoutTicket t.asked
    pub its_replies : c.replies ++ concat (replies_left accounts stamp number lines entries state) ≡ all_told
    pub stands : up → c.standing ≡ standing_in state

  -- a session that awaits the answer that its transcript tells
  pub record AwaitsIt (up : Type 0) (left : Turns A) (key : CommandId) (outcome : Outcome A) (c : Client A) : Type 0 where
    pub number : ℕ
    pub lines : List Line
    pub entries : List (Asked A)
    pub hangup : List (Asked A)
    pub state : State A
    pub turn : Turn A
    pub fits : by_answer state key.ticket outcome ≡ Some turn
    pub rest : IsRest accounts stamp number lines entries hangup turn.state
    pub turns : left ≡ turns_left number lines entries hangup
    pub its_lines : c.lines ++ lines ≡ t.lines
    pub its_tickets : c.tickets ++ line_tickets entries ≡ line_tickets t.asked
    pub ends : EndsWithoutTicket (entries ++ hangup) → EndsWithoutTicket t.asked
    pub its_replies : c.replies ++ concat (said_by turn.step ++ replies_left accounts stamp number lines entries turn.state) ≡ all_told
    pub stands : up → c.standing ≡ Waits state key

  -- a session of which its transcript tells no more
  pub record IsDone (left : Turns A) (c : Client A) : Type 0 where
    pub no_turn : left ≡ []
    pub its_lines : AreItsLines t c.lines
    pub its_tickets : c.tickets ≡ line_tickets t.asked
    pub its_replies : IsPrefix all_told c.replies

  -- a session that awaits an answer of which its transcript tells nothing
  pub record AwaitsMore (up : Type 0) (left : Turns A) (key : CommandId) (c : Client A) : Type 0 where
    pub state : State A
    pub over : IsDone left c
    pub stands : up → c.standing ≡ Waits state key

  abbrev pub StandsFor : Type 0 → Turns A → CommandId → Client A → Option (Outcome A) → Type 0
  StandsFor up left key c None = AwaitsMore up left key c
  StandsFor up left key c (Some outcome) = AwaitsIt up left key outcome c ⊎ AwaitsMore up left key c

  abbrev pub StandsAs : Type 0 → Turns A → Option (Awaited CommandId (Outcome A)) → Client A → Type 0
  StandsAs up left None c = Goes up left c ⊎ IsDone left c
  StandsAs up left (Some y) c = StandsFor up left y.key c y.outcome

  -- a node that is up now was up before
  goes_later : (up later : Type 0) → (later → up) → (left : Turns A) (c : Client A) → Goes up left c → Goes later left c
  goes_later up later before left c g = record {
    number = g.number;
    lines = g.lines;
    entries = g.entries;
    hangup = g.hangup;
    state = g.state;
    rest = g.rest;
    turns = g.turns;
    its_lines = g.its_lines;
    its_tickets = g.its_tickets;
    ends = g.ends;
    its_replies = g.its_replies;
    stands = λ h. g.stands (before h);
  }

  awaits_later : (up later : Type 0) → (later → up) → (left : Turns A) (key : CommandId) (outcome : Outcome A) (c : Client A) → AwaitsIt up left key outcome c → AwaitsIt later left key outcome c
  awaits_later up later before left key outcome c g = record {
    number = g.number;
    lines = g.lines;
    entries = g.entries;
    hangup = g.hangup;
    state = g.state;
    turn = g.turn;
    fits = g.fits;
    rest = g.rest;
    turns = g.turns;
    its_lines = g.its_lines;
    its_tickets = g.its_tickets;
    ends = g.ends;
    its_replies = g.its_replies;
    stands = λ h. g.stands (before h);
  }

  more_later : (up later : Type 0) → (later → up) → (left : Turns A) (key : CommandId) (c : Client A) → AwaitsMore up left key c → AwaitsMore later left key c
  more_later up later before left key c g = record { state = g.state; over = g.over; stands = λ h. g.stands (before h) }

  pub stands_later : (up later : Type 0) → (later → up) → (left : Turns A) (awaits : Option (Awaited CommandId (Outcome A))) (c : Client A) → StandsAs up left awaits c → StandsAs later left awaits c
  stands_later up later before left None c h = ⊎_elim (λ g. inl (goes_later up later before left c g)) (λ d. inr d) h
  stands_later up later before left (Some y) c h =
      go y.outcome h
    where
      go : (outcome : Option (Outcome A)) → StandsFor up left y.key c outcome → StandsFor later left y.key c outcome
      go None d = more_later up later before left y.key c d
      go (Some outcome) d = ⊎_elim (λ g. inl (awaits_later up later before left y.key outcome c g)) (λ e. inr (more_later up later before left y.key c e)) d

  -- however it stands if its node is down
  goes_down : (up later : Type 0) → (later → ⊥) → (left : Turns A) (c : Client A) (standing : Standing A) → Goes up left c → Goes later left (standing_as c standing)
  goes_down up later down left c standing g = record {
    number = g.number;
    lines = g.lines;
    entries = g.entries;
    hangup = g.hangup;
    state = g.state;
    rest = g.rest;
    turns = g.turns;
    its_lines = g.its_lines;
    its_tickets = g.its_tickets;
    ends = g.ends;
    its_replies = g.its_replies;
    stands = λ h. absurd (down h);
  }

  awaits_down : (up later : Type 0) → (later → ⊥) → (left : Turns A) (key : CommandId) (outcome : Outcome A) (c : Client A) (standing : Standing A) → AwaitsIt up left key outcome c → AwaitsIt later left key outcome (standing_as c standing)
  awaits_down up later down left key outcome c standing g = record {
    number = g.number;
    lines = g.lines;
    entries = g.entries;
    hangup = g.hangup;
    state = g.state;
    turn = g.turn;
    fits = g.fits;
    rest = g.rest;
    turns = g.turns;
    its_lines = g.its_lines;
    its_tickets = g.its_tickets;
    ends = g.ends;
    its_replies = g.its_replies;
    stands = λ h. absurd (down h);
  }

  done_as : (left : Turns A) (c : Client A) (standing : Standing A) → IsDone left c → IsDone left (standing_as c standing)
  done_as left c standing d = record { no_turn = d.no_turn; its_lines = d.its_lines; its_tickets = d.its_tickets; its_replies = d.its_replies }

  more_down : (up later : Type 0) → (later → ⊥) → (left : Turns A) (key : CommandId) (c : Client A) (standing : Standing A) → AwaitsMore up left key c → AwaitsMore later left key (standing_as c standing)
  more_down up later down left key c standing g = record { state = g.state; over = done_as left c standing g.over; stands = λ h. absurd (down h) }

  pub stands_down : (up later : Type 0) → (later → ⊥) → (left : Turns A) (awaits : Option (Awaited CommandId (Outcome A))) (c : Client A) (standing : Standing A) → StandsAs up left awaits c → StandsAs later left awaits (standing_as c standing)
  stands_down up later down left None c standing h = ⊎_elim (λ g. inl (goes_down up later down left c standing g)) (λ d. inr (done_as left c standing d)) h
  stands_down up later down left (Some y) c standing h =
      go y.outcome h
    where
      go : (outcome : Option (Outcome A)) → StandsFor up left y.key c outcome → StandsFor later left y.key (standing_as c standing) outcome
      go None d = more_down up later down left y.key c standing d
      go (Some outcome) d = ⊎_elim (λ g. inl (awaits_down up later down left y.key outcome c standing g)) (λ e. inr (more_down up later down left y.key c standing e)) d

  -- what is told after what was told
  told_more : (replies bytes : List ℕ) (rest all : List (List ℕ)) → all ≡ bytes ∷ rest → replies ++ concat all ≡ all_told → (replies ++ bytes) ++ concat rest ≡ all_told
  told_more replies bytes rest all e h = append_assoc replies bytes (concat rest) ∙ ap (λ rs. replies ++ concat rs) (sym e) ∙ h

  told_all : (replies : List ℕ) (rest : List (List ℕ)) → rest ≡ [] → replies ++ concat rest ≡ all_told → IsPrefix all_told replies
  told_all replies rest e h = ([], append-nil all_told ∙ sym h ∙ ap (λ rs. replies ++ concat rs) e ∙ append-nil replies)

  line_more : (lines more all : List Line) (line other : Line) → line ≡ other → all ≡ other ∷ more → lines ++ all ≡ t.lines → (lines ++ line ∷ []) ++ more ≡ t.lines
  line_more lines more all line other q e h = append_assoc lines (line ∷ []) more ∙ ap (λ l. lines ++ l ∷ more) q ∙ ap (λ ls. lines ++ ls) (sym e) ∙ h

  ticket_more : (tickets more all : List Ticket) (ticket other : Ticket) → ticket ≡ other → all ≡ other ∷ more → tickets ++ all ≡ line_tickets t.asked → (tickets ++ ticket ∷ []) ++ more ≡ line_tickets t.asked
  ticket_more tickets more all ticket other q e h = append_assoc tickets (ticket ∷ []) more ∙ ap (λ x. tickets ++ x ∷ more) q ∙ ap (λ xs. tickets ++ xs) (sym e) ∙ h

  -- at the end of its turns
  pub at_end : (up : Type 0) (c : Client A) → Goes up [] c → IsDone [] c
  at_end up c g =
      go (next accounts stamp g.number g.lines g.entries g.hangup g.state g.rest)
    where
      go : Next accounts stamp g.number g.lines g.entries g.hangup g.state → IsDone [] c
      go (rests.Over o) =
          record {
            no_turn = refl;
            its_lines = ⊎_elim
                (λ e. inl (sym g.its_lines ∙ ap (λ ls. c.lines ++ ls) e ∙ append-nil c.lines))
                (λ (last : (l : Line) × (g.lines ≡ l ∷ []) × EndsWithoutTicket (g.entries ++ g.hangup)). inr (last.0, sym g.its_lines ∙ ap (λ ls. c.lines ++ ls) last.1, g.ends last.2))
                o.no_line;
            its_tickets = sym (append-nil c.tickets) ∙ ap (λ ts. c.tickets ++ ts) (sym o.tickets) ∙ g.its_tickets;
            its_replies = told_all c.replies _ o.replies g.its_replies;
          }
      go (rests.Freed f) = let no : [] ≡ asks_then None f.user (Free f.lock) f.ticket None [] = g.turns ∙ f.turns in absurd (cc)
      go (rests.Said s) = let no : [] ≡ Plain s.line ∷ turns_left (g.number + 1) s.more g.entries g.hangup = g.turns ∙ s.turns in absurd (cc)
      go (rests.AskedLast a) = let no : [] ≡ asks_then (Some a.line) a.user a.op a.ticket a.outcome [] = g.turns ∙ a.turns in absurd (cc)
      go (rests.AskedOn a) = let no : [] ≡ asks_then (Some a.line) a.user a.op a.ticket (Some a.outcome) (turns_left (g.number + 1) a.more a.behind g.hangup) = g.turns ∙ a.turns in absurd (cc)

  -- A line that asks nothing
  pub record SaysLine (later : Type 0) (line : Line) (left : Turns A) (c : Client A) : Type 0 where
    pub state : State A
    pub bytes : List ℕ
    pub after : Standing A
    pub hearing : c.standing ≡ Hears state
    pub step : (((by_line accounts stamp state line).step ≡ Say bytes) × (after ≡ Hears (by_line accounts stamp state line).state)) ⊎ (((by_line accounts stamp state line).step ≡ SayAndClose bytes) × (after ≡ Over))
    pub goes : Goes later left (told (with_line c line) bytes after)

  pub says_line : (up later : Type 0) (line : Line) (left : Turns A) (c : Client A) → up → Goes up (Plain line ∷ left) c → SaysLine later line left c
  says_line up later line left c is g =
      go (next accounts stamp g.number g.lines g.entries g.hangup g.state g.rest)
    where
      go : Next accounts stamp g.number g.lines g.entries g.hangup g.state → SaysLine later line left c
      go (rests.Over o) = let no : Plain line ∷ left ≡ [] = g.turns ∙ o.turns in absurd (cc)
      go (rests.Freed f) = let no : Plain line ∷ left ≡ asks_then None f.user (Free f.lock) f.ticket None [] = g.turns ∙ f.turns in absurd (cc)
      go (rests.AskedLast a) = let no : Plain line ∷ left ≡ asks_then (Some a.line) a.user a.op a.ticket a.outcome [] = g.turns ∙ a.turns in absurd (cc)
      go (rests.AskedOn a) = let no : Plain line ∷ left ≡ asks_then (Some a.line) a.user a.op a.ticket (Some a.outcome) (turns_left (g.number + 1) a.more a.behind g.hangup) = g.turns ∙ a.turns in absurd (cc)
      go (rests.Said s) =
          let both : Plain line ∷ left ≡ Plain s.line ∷ turns_left (g.number + 1) s.more g.entries g.hangup = g.turns ∙ s.turns in
          let same : line ≡ s.line = cc in
          let rest : left ≡ turns_left (g.number + 1) s.more g.entries g.hangup = cc in
          said s same rest
        where
          goes_on : (s : Says accounts stamp g.number g.lines g.entries g.hangup g.state) → line ≡ s.line → left ≡ turns_left (g.number + 1) s.more g.entries g.hangup → (after : Standing A) → after ≡ standing_in (by_line accounts stamp g.state s.line).state
              → Goes later left (told (with_line c line) s.bytes after)
          goes_on s same rest after stands = record {
            number = g.number + 1;
            lines = s.more;
            entries = g.entries;
            hangup = g.hangup;
            state = (by_line accounts stamp g.state s.line).state;
            rest = s.rest;
            turns = rest;
            its_lines = line_more c.lines s.more g.lines line s.line same s.lines_are g.its_lines;
            its_tickets = g.its_tickets;
            ends = g.ends;
            its_replies = told_more c.replies s.bytes _ _ s.replies g.its_replies;
            stands = λ h. stands;
          }

          settled : (s : Says accounts stamp g.number g.lines g.entries g.hangup g.state) (step : Step A) → (by_line accounts stamp g.state s.line).step ≡ step → IsSettled step (by_line accounts stamp g.state s.line).state
          settled s step e = subst (λ st. IsSettled st (by_line accounts stamp g.state s.line).state) e (line_settles accounts stamp g.state s.line s.heard)

          said : (s : Says accounts stamp g.number g.lines g.entries g.hangup g.state) → line ≡ s.line → left ≡ turns_left (g.number + 1) s.more g.entries g.hangup → SaysLine later line left c
          said s same rest =
              ⊎_elim
              (λ (e : (by_line accounts stamp g.state s.line).step ≡ Say s.bytes).
              record {
                state = g.state;
                bytes = s.bytes;
                after = Hears (by_line accounts stamp g.state s.line).state;
                hearing = g.stands is ∙ in_hearing g.state s.heard;
                step = inl (ap (λ l. (by_line accounts stamp g.state l).step) same ∙ e, ap (λ l. Hears (by_line accounts stamp g.state l).state) (sym same));
                goes = goes_on s same rest (Hears (by_line accounts stamp g.state s.line).state) (sym (in_hearing (by_line accounts stamp g.state s.line).state (settled s (Say s.bytes) e)));
              })
              (λ (e : (by_line accounts stamp g.state s.line).step ≡ SayAndClose s.bytes).
              record {
                state = g.state;
                bytes = s.bytes;
                after = Over;
                hearing = g.stands is ∙ in_hearing g.state s.heard;
                step = inr (ap (λ l. (by_line accounts stamp g.state l).step) same ∙ e, refl);
                goes = goes_on s same rest Over (sym (in_closed (by_line accounts stamp g.state s.line).state (settled s (SayAndClose s.bytes) e)));
              })
              s.step

  -- A line that asks
  pub record AsksLine (later : Type 0) (line : Line) (x : Input A) (key : CommandId) (outcome : Option (Outcome A)) (left : Turns A) (c : Client A) : Type 0 where
    pub state : State A
    pub user : List ℕ
    pub op : Op A
    pub hearing : c.standing ≡ Hears state
    pub step : (by_line accounts stamp state line).step ≡ Ask user op
    pub input : x ≡ Submit user op
    pub stands : StandsFor later left key (asking (with_line c line) key.ticket (Waits (by_line accounts stamp state line).state key)) outcome

  pub asks_line : (up later : Type 0) (line : Line) (x : Input A) (key : CommandId) (outcome : Option (Outcome A)) (left : Turns A) (c : Client A) → up → Goes up (Asks (Some line) x key outcome ∷ left) c → AsksLine later line x key outcome left c
  asks_line up later line x key outcome left c is g =
      go (next accounts stamp g.number g.lines g.entries g.hangup g.state g.rest)
    where
      last : (a : AsksLast accounts stamp g.number g.lines g.entries g.hangup g.state) → line ≡ a.line → x ≡ Submit a.user a.op → key ≡ record { user = a.user; ticket = a.ticket } → left ≡ [] → AsksLine later line x key outcome left c
      last a line_is input key_is none =
          record {
            state = g.state;
            user = a.user;
            op = a.op;
            hearing = g.stands is ∙ in_hearing g.state a.heard;
            step = ap (λ l. (by_line accounts stamp g.state l).step) line_is ∙ a.step;
            input = input;
            stands = at outcome;
          }
        where
          done : IsDone left (asking (with_line c line) key.ticket (Waits (by_line accounts stamp g.state line).state key))
          done = record {
            no_turn = none;
            its_lines = inl (sym (line_more c.lines [] g.lines line a.line line_is a.lines_are g.its_lines) ∙ append-nil (c.lines ++ line ∷ []));
            its_tickets = sym (append-nil (c.tickets ++ key.ticket ∷ [])) ∙ ticket_more c.tickets [] (line_tickets g.entries) key.ticket a.ticket (ap (λ (k : CommandId). k.ticket) key_is) a.tickets g.its_tickets;
            its_replies = told_all c.replies _ a.replies g.its_replies;
          }

          more : AwaitsMore later left key (asking (with_line c line) key.ticket (Waits (by_line accounts stamp g.state line).state key))
          more = record { state = (by_line accounts stamp g.state line).state; over = done; stands = λ h. refl }

          at : (o : Option (Outcome A)) → StandsFor later left key (asking (with_line c line) key.ticket (Waits (by_line accounts stamp g.state line).state key)) o
          at None = more
          at (Some o) = inr more

      on : (a : AsksOn accounts stamp g.number g.lines g.entries g.hangup g.state) → line ≡ a.line → x ≡ Submit a.user a.op → key ≡ record { user = a.user; ticket = a.ticket } → outcome ≡ Some a.outcome → left ≡ turns_left (g.number + 1) a.more a.behind g.hangup → AsksLine later line x key outcome left c
      on a line_is input key_is outcome_is rest =
          record {
            state = g.state;
            user = a.user;
            op = a.op;
            hearing = g.stands is ∙ in_hearing g.state a.heard;
            step = ap (λ l. (by_line accounts stamp g.state l).step) line_is ∙ a.step;
            input = input;
            stands = subst (StandsFor later left key (asking (with_line c line) key.ticket (Waits (by_line accounts stamp g.state line).state key))) (sym outcome_is) (inl (record {
              number = g.number + 1;
              lines = a.more;
              entries = a.behind;
              hangup = g.hangup;
              state = (by_line accounts stamp g.state line).state;
              turn = a.turn;
              fits = ap (λ l. by_answer (by_line accounts stamp g.state l).state key.ticket a.outcome) line_is ∙ ap (λ (k : CommandId). by_answer (by_line accounts stamp g.state a.line).state k.ticket a.outcome) key_is ∙ a.fits;
              rest = a.rest;
              turns = rest;
              its_lines = line_more c.lines a.more g.lines line a.line line_is a.lines_are g.its_lines;
              its_tickets = ticket_more c.tickets (line_tickets a.behind) (line_tickets g.entries) key.ticket a.ticket (ap (λ (k : CommandId). k.ticket) key_is) a.tickets g.its_tickets;
              ends = λ h. g.ends (a.ends h);
              its_replies = ap (λ rs. c.replies ++ concat rs) (sym a.replies) ∙ g.its_replies;
              stands = λ h. refl;
            }));
          }

      go : Next accounts stamp g.number g.lines g.entries g.hangup g.state → AsksLine later line x key outcome left c
      go (rests.Over o) = let no : Asks (Some line) x key outcome ∷ left ≡ [] = g.turns ∙ o.turns in absurd (cc)
      go (rests.Freed f) = let no : Asks (Some line) x key outcome ∷ left ≡ asks_then None f.user (Free f.lock) f.ticket None [] = g.turns ∙ f.turns in absurd (cc)
      go (rests.Said s) = let no : Asks (Some line) x key outcome ∷ left ≡ Plain s.line ∷ turns_left (g.number + 1) s.more g.entries g.hangup = g.turns ∙ s.turns in absurd (cc)
      go (rests.AskedLast a) =
          let both : Asks (Some line) x key outcome ∷ left ≡ asks_then (Some a.line) a.user a.op a.ticket a.outcome [] = g.turns ∙ a.turns in
          last a (cc) (cc) (cc) (cc)
      go (rests.AskedOn a) =
          let both : Asks (Some line) x key outcome ∷ left ≡ asks_then (Some a.line) a.user a.op a.ticket (Some a.outcome) (turns_left (g.number + 1) a.more a.behind g.hangup) = g.turns ∙ a.turns in
          on a (cc) (cc) (cc) (cc) (cc)

  -- A hangup that gives the lock back
  pub record HangsUp (x : Input A) (left : Turns A) (c : Client A) : Type 0 where
    pub state : State A
    pub user : List ℕ
    pub lock : Ticket
    pub hearing : c.standing ≡ Hears state
    pub due : lock_due state ≡ Some (user, lock)
    pub input : x ≡ Submit user (Free lock)
    pub over : IsDone left (standing_as c Over)

  pub hangs_up : (up : Type 0) (x : Input A) (key : CommandId) (outcome : Option (Outcome A)) (left : Turns A) (c : Client A) → up → Goes up (Asks None x key outcome ∷ left) c → HangsUp x left c
  hangs_up up x key outcome left c is g =
      go (next accounts stamp g.number g.lines g.entries g.hangup g.state g.rest)
    where
      frees : (f : Frees accounts stamp g.number g.lines g.entries g.hangup g.state) → x ≡ Submit f.user (Free f.lock) → left ≡ [] → HangsUp x left c
      frees f input none = record {
        state = g.state;
        user = f.user;
        lock = f.lock;
        hearing = g.stands is ∙ in_hearing g.state f.heard;
        due = f.due;
        input = input;
        over = record {
          no_turn = none;
          its_lines = inl (sym g.its_lines ∙ ap (λ ls. c.lines ++ ls) f.no_line ∙ append-nil c.lines);
          its_tickets = sym (append-nil c.tickets) ∙ ap (λ ts. c.tickets ++ ts) (sym f.tickets) ∙ g.its_tickets;
          its_replies = told_all c.replies _ f.replies g.its_replies;
        };
      }

      go : Next accounts stamp g.number g.lines g.entries g.hangup g.state → HangsUp x left c
      go (rests.Over o) = let no : Asks None x key outcome ∷ left ≡ [] = g.turns ∙ o.turns in absurd (cc)
      go (rests.Freed f) =
          let both : Asks None x key outcome ∷ left ≡ asks_then None f.user (Free f.lock) f.ticket None [] = g.turns ∙ f.turns in
          frees f (cc) (cc)
      go (rests.Said s) = let no : Asks None x key outcome ∷ left ≡ Plain s.line ∷ turns_left (g.number + 1) s.more g.entries g.hangup = g.turns ∙ s.turns in absurd (cc)
      go (rests.AskedLast a) = let no : Asks None x key outcome ∷ left ≡ asks_then (Some a.line) a.user a.op a.ticket a.outcome [] = g.turns ∙ a.turns in absurd (cc)
      go (rests.AskedOn a) = let no : Asks None x key outcome ∷ left ≡ asks_then (Some a.line) a.user a.op a.ticket (Some a.outcome) (turns_left (g.number + 1) a.more a.behind g.hangup) = g.turns ∙ a.turns in absurd (cc)

  -- An answer that is awaited
  pub takes_it : (up : Type 0) (left : Turns A) (key : CommandId) (outcome : Outcome A) (c : Client A) → (a : AwaitsIt up left key outcome c) → (later : Type 0) → Goes later left (by_turn c (by_answer a.state key.ticket outcome))
  takes_it up left key outcome c a later =
      subst (λ found. Goes later left (by_turn c found)) (sym a.fits) (go a.turn.step refl)
    where
      goes : (bytes : List ℕ) (standing : Standing A) → said_by a.turn.step ≡ bytes ∷ [] → standing ≡ standing_in a.turn.state → Goes later left (told c bytes standing)
      goes bytes standing said stands = record {
        number = a.number;
        lines = a.lines;
        entries = a.entries;
        hangup = a.hangup;
        state = a.turn.state;
        rest = a.rest;
        turns = a.turns;
        its_lines = a.its_lines;
        its_tickets = a.its_tickets;
        ends = a.ends;
        its_replies = told_more c.replies bytes _ _ (ap (λ rs. rs ++ replies_left accounts stamp a.number a.lines a.entries a.turn.state) said) a.its_replies;
        stands = λ h. stands;
      }

      settled : (step : Step A) → a.turn.step ≡ step → IsSettled step a.turn.state
      settled step e = subst (λ st. IsSettled st a.turn.state) e (answer_settles a.state key.ticket outcome a.turn a.fits).settles

      go : (step : Step A) → a.turn.step ≡ step → Goes later left (after_answer c a.turn.state a.turn.step)
      go (Say bytes) e = subst (λ st. Goes later left (after_answer c a.turn.state st)) (sym e) (goes bytes (Hears a.turn.state) (ap said_by e) (sym (in_hearing a.turn.state (settled (Say bytes) e))))
      go (SayAndClose bytes) e = subst (λ st. Goes later left (after_answer c a.turn.state st)) (sym e) (goes bytes Over (ap said_by e) (sym (in_closed a.turn.state (settled (SayAndClose bytes) e))))
      go (Ask user op) e = absurd (true≢false (sym (settled (Ask user op) e) ∙ (answer_settles a.state key.ticket outcome a.turn a.fits).says))

  -- one that the transcript doesn't tell
  pub takes_more : (left : Turns A) (c : Client A) (found : Option (Turn A)) → IsDone left c → IsDone left (by_turn c found)
  takes_more left c None d = done_as left c Over d
  takes_more left c (Some turn) d =
      go turn.step
    where
      more : (bytes : List ℕ) (standing : Standing A) → IsDone left (told c bytes standing)
      more bytes standing = record { no_turn = d.no_turn; its_lines = d.its_lines; its_tickets = d.its_tickets; its_replies = prefix_on all_told c.replies (c.replies ++ bytes) d.its_replies (front_of c.replies bytes) }

      go : (step : Step A) → IsDone left (after_answer c turn.state step)
      go (Say bytes) = more bytes (Hears turn.state)
      go (SayAndClose bytes) = more bytes Over
      go (Ask user op) = d

  -- A new client
  pub begins : IsTranscript accounts stamp t → (turns : Turns A) → script_of t ≡ Some turns → (later : Type 0) (node : ℕ) → Goes later turns (new_client node stamp)
  begins is turns script later node =
      go (is_blank t) script
    where
      taken : answers_of t.asked ≡ answers_of is.entries
      taken =
          ap answers_of is.in_order ∙ answers_append is.entries is.hangup
          ∙ ap (λ more. answers_of is.entries ++ more) (freed_answers (free_of (lock_due (told_by accounts stamp t).state)) is.hangup is.freed) ∙ append-nil (answers_of is.entries)

      rest : IsRest accounts stamp 0 t.lines is.entries is.hangup opening
      rest = record {
        is_open = inl refl;
        heard = λ n few. ap (λ given. takes_line (conversation_from accounts stamp 0 (Rattle.std.specs.Prelude.take n t.lines) opening given).state) (sym taken) ∙ is.heard n few;
        asked = is.asked ∙ ap (λ given. (conversation_from accounts stamp 0 t.lines opening given).asked) taken;
        answered = asked_at t.end (told_by accounts stamp t).state is.entries is.answered;
        freed = subst (λ given. IsFreed (free_of (lock_due (conversation_from accounts stamp 0 t.lines opening given).state)) is.hangup) taken is.freed;
      }

      go : (blank : Bool) → cond blank None (Some (turns_from 0 t.lines t.asked)) ≡ Some turns → Goes later turns (new_client node stamp)
      go true e = absurd (cc)
      go false e =
          let same : turns_from 0 t.lines t.asked ≡ turns = cc in
          record {
            number = 0;
            lines = t.lines;
            entries = is.entries;
            hangup = is.hangup;
            state = opening;
            rest = rest;
            turns = sym same ∙ ap (turns_from 0 t.lines) is.in_order;
            its_lines = refl;
            its_tickets = sym (ap line_tickets is.in_order ∙ tickets_append is.entries is.hangup
                ∙ ap (λ more. line_tickets is.entries ++ more) (freed_tickets (free_of (lock_due (told_by accounts stamp t).state)) is.hangup is.freed) ∙ append-nil (line_tickets is.entries));
            ends = λ h. record { front = h.front; last = h.last; in_order = is.in_order ∙ h.in_order; no_ticket = h.no_ticket };
            its_replies = ap (λ given. reply.greeting stamp.nonce stamp.host ++ concat (conversation_from accounts stamp 0 t.lines opening given).replies) (sym taken);
            stands = λ h. refl;
          }
