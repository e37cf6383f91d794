-- What holds of each client of a run, and what each line and each answer leave of it.
use Rattle.std.proofs.Common.{◌≡◌, ℕ, List, [], ◌∷◌, ◌++◌, length, Bool, true, false, Option, Some, None, refl, sym, ap, ◌∙◌, subst, cond, eqb, map}
use Rattle.std.specs.Prelude.{⊤}
use Rattle.std.specs.List.{concat}
use Rattle.std.proofs.lemmas.List.{append-nil}
use Rattle.maildrop.specs.CommandId.{CommandId}
use Rattle.maildrop.specs.Ticket.{Ticket}
use Rattle.maildrop.specs.declared.command.Command.{Command}
use Rattle.maildrop.specs.declared.op.Op.{Op}
use Rattle.maildrop.specs.declared.outcome.Outcome.{Outcome}
use Rattle.apop.specs.Stamp.{Stamp}
use Rattle.pop3_wire.specs.declared.line.Line.{Line}
use Rattle.node.specs.Nodes.{logged}
use Rattle.node.specs.declared.input.Input.{Input}
use Rattle.node.specs.declared.input.Input.TheVariants.{Submit}
use Rattle.node.specs.declared.log.NodeLog.{NodeLog}
use Rattle.node.proofs.Submitting.{submitted_later}
use Rattle.session.specs.Alone.{outcome_of}
use Rattle.session.specs.Asking.{AreFor}
use Rattle.session.specs.Calls.{HearLine, HearAnswer, Talk, said_by, asked_by, after_turn, talk_begun, IsTalk}
use Rattle.session.specs.Conversation.{Answer, Request}
use Rattle.session.specs.Dialogue.{IsSettled}
use Rattle.session.specs.Prefix.{IsPrefix}
use Rattle.session.specs.Session.{takes_line, by_line, by_answer}
use Rattle.session.specs.declared.state.State.{State}
use Rattle.session.specs.declared.state.Step.{Step}
use Rattle.session.specs.declared.state.Step.TheVariants.{Say, Ask, SayAndClose}
use Rattle.session.specs.declared.state.Turn.{Turn}
use Rattle.session.proofs.Calls.{call_talk, begun_talk}
use Rattle.session.proofs.Settled.{line_settles, answer_settles}
use Rattle.runs.specs.Clients.{Standing, Hears, Waits, Failed, Disconnected, Over, Client, new_client, standing_as, told, with_line, asking, disconnected, without_node}
use Rattle.runs.specs.Projection.{AreSubmitted}
use Rattle.node.specs.Outcomes.{first_maildrop, own_of}
use Rattle.runs.specs.Services.{next_id, after_answer, by_turn, opening_of}
use Rattle.runs.specs.declared.config.Config.{Config}
use Rattle.runs.proofs.Fitting.{Fits, StepFits, line_fits}
use Rattle.runs.proofs.OwnOutcomes.{outcome_later}
use Rattle.runs.proofs.Prefixes.{concat_push}

module _ {A : Type 0} where
  abbrev pub tickets_in : List (Answer A) → List Ticket
  tickets_in answers = map (λ a. a.ticket) answers

  -- each is the answer that the user's own commands bring
  abbrev pub AreOwn : Config A → List (ℕ × Command A) → List ℕ → List (Answer A) → Type 0
  AreOwn cfg order user [] = ⊤
  AreOwn cfg order user (a ∷ answers) = (outcome_of (first_maildrop (opening_of cfg) user) a.ticket (own_of user order) ≡ Some a.outcome) × AreOwn cfg order user answers

  -- the last that was asked for is for the user of this command, and its answer is awaited in this state
  pub record AsksLast (talk : Talk A) (id : CommandId) (state : State A) : Type 0 where
    pub before : List (Request A)
    pub last : Request A
    pub asked : talk.asked ≡ before ++ last ∷ []
    pub user : last.user ≡ id.user
    pub fits : Fits last.op state

  -- where the session of a client is, by how it stands
  abbrev pub Stands : Talk A → List Ticket → Standing A → Type 0
  Stands talk tickets (Hears state) = (talk.state ≡ state) × (takes_line state ≡ true) × (tickets_in talk.answers ≡ tickets)
  Stands talk tickets (Waits state id) = (talk.state ≡ state) × (tickets_in talk.answers ++ id.ticket ∷ [] ≡ tickets) × ((user : List ℕ) → AreFor user talk.asked → id.user ≡ user) × AsksLast talk id state
  Stands talk tickets (Failed lock) = IsPrefix (tickets_in talk.answers) tickets
  Stands talk tickets Disconnected = IsPrefix (tickets_in talk.answers) tickets
  Stands talk tickets Over = IsPrefix (tickets_in talk.answers) tickets

  -- The client's lines and the answers that it took are those of a talk, of which it was told the replies.
  pub record IsServed (cfg : Config A) (order : List (ℕ × Command A)) (log : NodeLog A) (c : Client A) : Type 0 where
    pub talk : Talk A
    pub is : IsTalk cfg.accounts c.stamp talk
    pub lines : talk.lines ≡ c.lines
    pub replies : c.replies ≡ concat talk.replies
    pub own : (user : List ℕ) → AreFor user talk.asked → AreOwn cfg order user talk.answers
    pub stands : Stands talk c.tickets c.standing
    pub submitted : AreSubmitted log talk.asked c.tickets

  -- a talk, after a line that it hears
  abbrev heard_talk : Talk A → Line → State A → Step A → Talk A
  heard_talk talk line state step = record {
    state = state;
    lines = talk.lines ++ line ∷ [];
    answers = talk.answers;
    replies = talk.replies ++ said_by step;
    asked = talk.asked ++ asked_by (length talk.lines) step;
  }

  tickets_push : (answers : List (Answer A)) (a : Answer A) → tickets_in (answers ++ a ∷ []) ≡ tickets_in answers ++ a.ticket ∷ []
  tickets_push [] a = refl
  tickets_push (x ∷ answers) a = ap (λ ts. x.ticket ∷ ts) (tickets_push answers a)

  pub front_for : (user : List ℕ) (rs : List (Request A)) (r : Request A) → AreFor user (rs ++ r ∷ []) → AreFor user rs × (r.user ≡ user)
  front_for user [] r h = (tt, h.0)
  front_for user (x ∷ rs) r h = let rest = front_for user rs r h.1 in ((h.0, rest.0), rest.1)

  own_push : (cfg : Config A) (order : List (ℕ × Command A)) (user : List ℕ) (answers : List (Answer A)) (a : Answer A) → AreOwn cfg order user answers →
      outcome_of (first_maildrop (opening_of cfg) user) a.ticket (own_of user order) ≡ Some a.outcome → AreOwn cfg order user (answers ++ a ∷ [])
  own_push cfg order user [] a h e = (e, tt)
  own_push cfg order user (x ∷ answers) a h e = (h.0, own_push cfg order user answers a h.1 e)

  own_later : (cfg : Config A) (order later : List (ℕ × Command A)) → IsPrefix order later → (user : List ℕ) (answers : List (Answer A)) → AreOwn cfg order user answers → AreOwn cfg later user answers
  own_later cfg order later front user [] h = tt
  own_later cfg order later front user (a ∷ answers) h = (outcome_later (opening_of cfg) user a.ticket a.outcome order later front h.0, own_later cfg order later front user answers h.1)

  -- a longer log
  pub submitted_more : (log : NodeLog A) (more : List (Input A)) (rs : List (Request A)) (ts : List Ticket) → AreSubmitted log rs ts → AreSubmitted (record { opening = log.opening; inputs = log.inputs ++ more }) rs ts
  submitted_more log more [] [] h = tt
  submitted_more log more [] (t ∷ ts) h = absurd h
  submitted_more log more (r ∷ rs) [] h = absurd h
  submitted_more log more (r ∷ rs) (t ∷ ts) h = (submitted_later log more (record { user = r.user; ticket = t }) r.op h.0, submitted_more log more rs ts h.1)

  submitted_push : (log : NodeLog A) (number : ℕ) (user : List ℕ) (op : Op A) (rs : List (Request A)) (ts : List Ticket) → AreSubmitted log rs ts →
      AreSubmitted (logged log (Submit user op)) (rs ++ record { line = number; user = user; op = op } ∷ []) (ts ++ (next_id log user).ticket ∷ [])
  submitted_push log number user op [] [] h = (record { before = log.inputs; after = []; inputs = refl; ticket = refl }, tt)
  submitted_push log number user op [] (t ∷ ts) h = absurd h
  submitted_push log number user op (r ∷ rs) [] h = absurd h
  submitted_push log number user op (r ∷ rs) (t ∷ ts) h =
      (submitted_later log (Submit user op ∷ []) (record { user = r.user; ticket = t }) r.op h.0, submitted_push log number user op rs ts h.1)

  module _ (cfg : Config A) (order : List (ℕ × Command A)) where
    -- more that is decided, and more that its node takes, change nothing
    pub later_served : (log : NodeLog A) (more : List (Input A)) (later : List (ℕ × Command A)) (c : Client A) → IsPrefix order later → IsServed cfg order log c →
        IsServed cfg later (record { opening = log.opening; inputs = log.inputs ++ more }) c
    later_served log more later c front s = record {
      talk = s.talk;
      is = s.is;
      lines = s.lines;
      replies = s.replies;
      own = λ user h. own_later cfg order later front user s.talk.answers (s.own user h);
      stands = s.stands;
      submitted = submitted_more log more s.talk.asked c.tickets s.submitted;
    }

    pub new_served : (log : NodeLog A) (node : ℕ) (stamp : Stamp) → IsServed cfg order log (new_client node stamp)
    new_served log node stamp = record {
      talk = talk_begun stamp;
      is = begun_talk cfg.accounts stamp;
      lines = refl;
      replies = sym (append-nil ((new_client {A = A} node stamp).replies));
      own = λ user h. tt;
      stands = (refl, refl, refl);
      submitted = tt;
    }

    module _ (log : NodeLog A) (c : Client A) (s : IsServed cfg order log c) where
      front : (standing : Standing A) → Stands s.talk c.tickets standing → IsPrefix (tickets_in s.talk.answers) c.tickets
      front (Hears state) h = ([], append-nil (tickets_in s.talk.answers) ∙ h.2)
      front (Waits state id) h = (id.ticket ∷ [], h.1)
      front (Failed lock) h = h
      front Disconnected h = h
      front Over h = h

      -- a session that takes no more lines and no more answers
      pub ended : (standing : Standing A) → (IsPrefix (tickets_in s.talk.answers) c.tickets → Stands s.talk c.tickets standing) → IsServed cfg order log (standing_as c standing)
      ended standing stands = record { talk = s.talk; is = s.is; lines = s.lines; replies = s.replies; own = s.own; stands = stands (front c.standing s.stands); submitted = s.submitted }

      pub tickets_front : IsPrefix (tickets_in s.talk.answers) c.tickets
      tickets_front = front c.standing s.stands

      pub without_served : (node : ℕ) → IsServed cfg order log (without_node node c)
      without_served node =
          go (eqb c.node node)
        where
          strands : (standing : Standing A) → c.standing ≡ standing → IsServed cfg order log (standing_as c (disconnected standing))
          strands (Hears state) e = ended Disconnected (λ p. p)
          strands (Waits state id) e = ended Disconnected (λ p. p)
          strands (Failed lock) e = ended (Failed lock) (λ p. p)
          strands Disconnected e = ended Disconnected (λ p. p)
          strands Over e = ended Over (λ p. p)

          go : (t : Bool) → IsServed cfg order log (cond t (standing_as c (disconnected c.standing)) c)
          go true = strands c.standing refl
          go false = s

      -- a line
      heard : (line : Line) → takes_line s.talk.state ≡ true → (step : Step A) → (by_line cfg.accounts c.stamp s.talk.state line).step ≡ step →
          IsTalk cfg.accounts c.stamp (heard_talk s.talk line (by_line cfg.accounts c.stamp s.talk.state line).state step)
      heard line hearing step e =
          subst (λ st. IsTalk cfg.accounts c.stamp (heard_talk s.talk line (by_line cfg.accounts c.stamp s.talk.state line).state st)) e
          (go (takes_line s.talk.state) hearing (call_talk cfg.accounts c.stamp s.talk (HearLine line) s.is))
        where
          next : Talk A
          next = heard_talk s.talk line (by_line cfg.accounts c.stamp s.talk.state line).state (by_line cfg.accounts c.stamp s.talk.state line).step

          go : (t : Bool) → t ≡ true →
              IsTalk cfg.accounts c.stamp (cond t (heard_talk s.talk line (by_line cfg.accounts c.stamp s.talk.state line).state (by_line cfg.accounts c.stamp s.talk.state line).step) s.talk) →
              IsTalk cfg.accounts c.stamp (heard_talk s.talk line (by_line cfg.accounts c.stamp s.talk.state line).state (by_line cfg.accounts c.stamp s.talk.state line).step)
          go true q k = k
          go false q k = absurd (cc)

      line_settled : (line : Line) → takes_line s.talk.state ≡ true → (step : Step A) → (by_line cfg.accounts c.stamp s.talk.state line).step ≡ step →
          IsSettled step (by_line cfg.accounts c.stamp s.talk.state line).state
      line_settled line hearing step e = subst (λ st. IsSettled st (by_line cfg.accounts c.stamp s.talk.state line).state) e (line_settles cfg.accounts c.stamp s.talk.state line hearing)

      -- a line that is answered, whatever state it leads to
      said : (line : Line) (state : State A) (bytes : List ℕ) (standing : Standing A) →
          IsTalk cfg.accounts c.stamp (record { state = state; lines = s.talk.lines ++ line ∷ []; answers = s.talk.answers; replies = s.talk.replies ++ bytes ∷ []; asked = s.talk.asked ++ [] }) →
          Stands (record { state = state; lines = s.talk.lines ++ line ∷ []; answers = s.talk.answers; replies = s.talk.replies ++ bytes ∷ []; asked = s.talk.asked }) c.tickets standing →
          IsServed cfg order log (told (with_line c line) bytes standing)
      said line state bytes standing is stands = record {
        talk = record { state = state; lines = s.talk.lines ++ line ∷ []; answers = s.talk.answers; replies = s.talk.replies ++ bytes ∷ []; asked = s.talk.asked };
        is = subst (λ (asked : List (Request A)). IsTalk cfg.accounts c.stamp (record { state = state; lines = s.talk.lines ++ line ∷ []; answers = s.talk.answers; replies = s.talk.replies ++ bytes ∷ []; asked = asked })) (append-nil s.talk.asked) is;
        lines = ap (λ ls. ls ++ line ∷ []) s.lines;
        replies = ap (λ bs. bs ++ bytes) s.replies ∙ sym (concat_push s.talk.replies bytes);
        own = s.own;
        stands = stands;
        submitted = s.submitted;
      }

      pub line_says : (line : Line) → takes_line s.talk.state ≡ true → tickets_in s.talk.answers ≡ c.tickets → (bytes : List ℕ) → (by_line cfg.accounts c.stamp s.talk.state line).step ≡ Say bytes →
          IsServed cfg order log (told (with_line c line) bytes (Hears (by_line cfg.accounts c.stamp s.talk.state line).state))
      line_says line hearing tickets bytes e =
          let state = (by_line cfg.accounts c.stamp s.talk.state line).state in
          said line state bytes (Hears state) (heard line hearing (Say bytes) e) (refl, line_settled line hearing (Say bytes) e, tickets)

      pub line_closes : (line : Line) → takes_line s.talk.state ≡ true → tickets_in s.talk.answers ≡ c.tickets → (bytes : List ℕ) → (by_line cfg.accounts c.stamp s.talk.state line).step ≡ SayAndClose bytes →
          IsServed cfg order log (told (with_line c line) bytes Over)
      line_closes line hearing tickets bytes e =
          let state = (by_line cfg.accounts c.stamp s.talk.state line).state in
          said line state bytes Over (heard line hearing (SayAndClose bytes) e) ([], append-nil (tickets_in s.talk.answers) ∙ tickets)

      pub line_asks : (line : Line) → takes_line s.talk.state ≡ true → tickets_in s.talk.answers ≡ c.tickets → (user : List ℕ) (op : Op A) → (by_line cfg.accounts c.stamp s.talk.state line).step ≡ Ask user op →
          IsServed cfg order (logged log (Submit user op)) (asking (with_line c line) ((next_id log user).ticket) (Waits (by_line cfg.accounts c.stamp s.talk.state line).state (next_id log user)))
      line_asks line hearing tickets user op e =
          let state = (by_line cfg.accounts c.stamp s.talk.state line).state in
          let request : Request A = record { line = length s.talk.lines; user = user; op = op } in
          record {
            talk = record { state = state; lines = s.talk.lines ++ line ∷ []; answers = s.talk.answers; replies = s.talk.replies; asked = s.talk.asked ++ request ∷ [] };
            is = subst (λ (replies : List (List ℕ)). IsTalk cfg.accounts c.stamp (record { state = state; lines = s.talk.lines ++ line ∷ []; answers = s.talk.answers; replies = replies; asked = s.talk.asked ++ request ∷ [] }))
                (append-nil s.talk.replies) (heard line hearing (Ask user op) e);
            lines = ap (λ ls. ls ++ line ∷ []) s.lines;
            replies = s.replies;
            own = λ u k. s.own u (front_for u s.talk.asked request k).0;
            stands = (
              refl,
              ap (λ ts. ts ++ (next_id log user).ticket ∷ []) tickets,
              λ u k. (front_for u s.talk.asked request k).1,
              record { before = s.talk.asked; last = request; asked = refl; user = refl; fits = subst (λ st. StepFits st state) e (line_fits cfg.accounts c.stamp s.talk.state line) },
            );
            submitted = submitted_push log (length s.talk.lines) user op s.talk.asked c.tickets s.submitted;
          }

      -- an answer
      module _ (state : State A) (id : CommandId) (at : s.talk.state ≡ state) (tickets : tickets_in s.talk.answers ++ id.ticket ∷ [] ≡ c.tickets)
          (named : (user : List ℕ) → AreFor user s.talk.asked → id.user ≡ user) (o : Outcome A)
          (right : outcome_of (first_maildrop (opening_of cfg) id.user) id.ticket (own_of id.user order) ≡ Some o) where
        abbrev its_answer : Answer A
        its_answer = record { ticket = id.ticket; outcome = o }

        abbrev answered_talk : State A → Step A → Talk A
        answered_talk last step = record s.talk { state = last; answers = s.talk.answers ++ its_answer ∷ []; replies = s.talk.replies ++ said_by step }

        told_answer : (turn : Turn A) → by_answer state id.ticket o ≡ Some turn → (step : Step A) → turn.step ≡ step → IsTalk cfg.accounts c.stamp (answered_talk turn.state step)
        told_answer turn found step e =
            subst (λ st. IsTalk cfg.accounts c.stamp (answered_talk turn.state st)) e
            (subst (λ t. IsTalk cfg.accounts c.stamp (after_turn s.talk its_answer t)) (ap (λ st. by_answer st id.ticket o) at ∙ found)
            (call_talk cfg.accounts c.stamp s.talk (HearAnswer its_answer) s.is))

        tickets_now : tickets_in (s.talk.answers ++ its_answer ∷ []) ≡ c.tickets
        tickets_now = tickets_push s.talk.answers its_answer ∙ tickets

        answered_served : (turn : Turn A) → by_answer state id.ticket o ≡ Some turn → (bytes : List ℕ) (step : Step A) → turn.step ≡ step → said_by step ≡ bytes ∷ [] → (standing : Standing A) →
            Stands (answered_talk turn.state step) c.tickets standing → IsServed cfg order log (told c bytes standing)
        answered_served turn found bytes step e says standing stands = record {
          talk = answered_talk turn.state step;
          is = told_answer turn found step e;
          lines = s.lines;
          replies = ap (λ bs. bs ++ bytes) s.replies ∙ sym (concat_push s.talk.replies bytes) ∙ ap (λ (bs : List (List ℕ)). concat (s.talk.replies ++ bs)) (sym says);
          own = λ u k. own_push cfg order u s.talk.answers its_answer (s.own u k) (subst (λ v. outcome_of (first_maildrop (opening_of cfg) v) id.ticket (own_of v order) ≡ Some o) (named u k) right);
          stands = stands;
          submitted = s.submitted;
        }

        after_served : (turn : Turn A) → by_answer state id.ticket o ≡ Some turn → (step : Step A) → turn.step ≡ step → IsSettled step turn.state → IsServed cfg order log (after_answer c turn.state step)
        after_served turn found (Say bytes) e settled = answered_served turn found bytes (Say bytes) e refl (Hears turn.state) (refl, settled, tickets_now)
        after_served turn found (SayAndClose bytes) e settled = answered_served turn found bytes (SayAndClose bytes) e refl Over ([], append-nil (tickets_in (s.talk.answers ++ its_answer ∷ [])) ∙ tickets_now)
        after_served turn found (Ask user op) e settled = s

        turn_served : (turn : Option (Turn A)) → by_answer state id.ticket o ≡ turn → IsServed cfg order log (by_turn c turn)
        turn_served None found = ended Over (λ p. p)
        turn_served (Some turn) found = after_served turn found turn.step refl (answer_settles state id.ticket o turn found).settles

        pub answer_served : IsServed cfg order log (by_turn c (by_answer state id.ticket o))
        answer_served = turn_served (by_answer state id.ticket o) refl
