-- The commands that sessions await the answers to: each is of a ticket that its node has given, and no two sessions await one.
use Rattle.std.proofs.Common.{◌≡◌, ℕ, ◌+◌, ◌≤◌, List, [], ◌∷◌, ◌++◌, Bool, true, false, Option, Some, None, refl, sym, ap, ◌∙◌, subst, inl, inr, ⊎_elim, arith, cond, eqb}
use Rattle.std.specs.Prelude.{◌⊎◌, fold}
use Rattle.std.specs.Str.{bytes_eq}
use Rattle.std.proofs.lemmas.Bool.{eqb-true, eq-eqb}
use Rattle.std.proofs.lemmas.Slice.Eq.{bytes_eq-Decides}
use Rattle.maildrop.specs.CommandId.{CommandId}
use Rattle.maildrop.specs.Ticket.{Ticket}
use Rattle.maildrop.specs.declared.op.Op.{Op}
use Rattle.maildrop.specs.declared.outcome.Outcome.{Outcome}
use Rattle.pop3_wire.specs.declared.line.Line.{Line}
use Rattle.session.specs.Dialogue.{IsSettled}
use Rattle.session.specs.Session.{by_line, by_answer, lock_due, lock_got, free_of}
use Rattle.session.specs.declared.state.State.{State}
use Rattle.session.specs.declared.state.Step.{Step}
use Rattle.session.specs.declared.state.Step.TheVariants.{Say, Ask, SayAndClose}
use Rattle.session.specs.declared.state.Turn.{Turn}
use Rattle.session.proofs.Settled.{answer_settles}
use Rattle.node.specs.Nodes.{answered, logged}
use Rattle.node.specs.Replay.{counts, submits_of}
use Rattle.node.specs.declared.input.Input.{Input}
use Rattle.node.specs.declared.input.Input.TheVariants as input
use Rattle.node.specs.declared.log.Opening.{Opening}
use Rattle.node.specs.declared.log.NodeLog.{NodeLog}
use Rattle.node.proofs.Replaying.{submits_of-push}
use Rattle.runs.specs.Clients.{Standing, Hears, Waits, Failed, Disconnected, Over, Client, new_client, standing_as, disconnected, told, with_line, asking, client_of, with_client}
use Rattle.world.specs.Kept.{IsGiven, IsAwaitedBy}
use Rattle.runs.specs.Messages.{Network, NodeEvent, Submits, log_of, is_up, after_node_events}
use Rattle.runs.specs.Messages as network
use Rattle.runs.specs.Services.{Service, Happening, Occurs, Lost, opening_of, new_service, at_nodes, keeps, submits_for, next_id, if_up, if_served, connects, after_line, hears_line, after_answer, by_turn, takes_answer, collects, gives_back, hangs_up, loses_answer, is_lost, crashes, occurs, happens, run_of}
use Rattle.runs.specs.Refusals.{refusal_of, client_refusal, collect_refusal, busy_without}
use Rattle.runs.specs.declared.config.Config.{Config}
use Rattle.runs.specs.declared.event.Event.{Event}
use Rattle.runs.specs.declared.event.Event.TheVariants as event
use Rattle.runs.specs.declared.refused.Refused.TheVariants.{Down, Busy}
use Rattle.runs.proofs.Later.{at_inserted}
use Rattle.runs.proofs.Logs.{some_same}
use Rattle.runs.proofs.NodeRuns.{every_run}
use Rattle.runs.proofs.ServiceRuns.{AreOfRun, next_of_run, happens_follows}
use Rattle.runs.proofs.Serving.{Logs, happens_logs, submitted_log, at_without}

module _ {A : Type 0} where
  -- Tickets are given for good

  more_submits : (name : List ℕ) (is more : List (Input A)) → submits_of name is ≤ submits_of name (is ++ more)
  more_submits name [] more = omega arith
  more_submits name (i ∷ is) more = let rest = more_submits name is more in omega (arith, rest)

  pub happen_logs : (w : Network A) (events : List (NodeEvent A)) (n : ℕ) (log : NodeLog A) → log_of n w.logs ≡ Some log → Logs (after_node_events w events) n log
  happen_logs w [] n log at = ([], at ∙ ap (λ is. Some (record { opening = log.opening; inputs = is })) (sym (nothing_more log.inputs)))
    where
      nothing_more : (is : List (Input A)) → is ++ [] ≡ is
      nothing_more [] = refl
      nothing_more (i ∷ is) = ap (λ js. i ∷ js) (nothing_more is)
  happen_logs w (e ∷ events) n log at =
      let one = happens_logs w e n log at in
      let rest = happen_logs (network.after_node_event w e) events n (record { opening = log.opening; inputs = log.inputs ++ one.0 }) one.1 in (
        one.0 ++ rest.0,
        rest.1 ∙ ap (λ is. Some (record { opening = log.opening; inputs = is })) (joined log.inputs one.0 rest.0),
      )
    where
      joined : (xs ys zs : List (Input A)) → (xs ++ ys) ++ zs ≡ xs ++ (ys ++ zs)
      joined [] ys zs = refl
      joined (x ∷ xs) ys zs = ap (λ js. x ∷ js) (joined xs ys zs)

  pub given_later : (cfg : Config A) (w : Service A) (h : Happening A) (id : CommandId) → IsGiven w id → IsGiven (happens cfg w h) id
  given_later cfg w h id given =
      let next = happens_follows w cfg h in
      let more = happen_logs w.network next.0 id.ticket.node given.log given.at in
      let enough = more_submits id.user given.log.inputs more.0 in
      let within = given.within in
      record {
        log = record { opening = given.log.opening; inputs = given.log.inputs ++ more.0 };
        at = ap (λ (n : Network A). log_of id.ticket.node n.logs) next.1 ∙ more.1;
        within = omega (arith, enough, within);
      }

  -- The command that an operation becomes

  abbrev pub AreNumbered : Service A → Type 0
  AreNumbered w = (n : ℕ) (log : NodeLog A) → log_of n w.network.logs ≡ Some log → log.opening.me ≡ n

  pub are_numbered : (cfg : Config A) (w : Service A) → AreOfRun cfg w → AreNumbered w
  are_numbered cfg w run n log at =
      ap (λ (o : Opening A). o.me) ((every_run (opening_of cfg) run.0).begins n log (ap (λ (x : Network A). log_of n x.logs) (sym run.1) ∙ at))

  pub not_given : (w : Service A) → AreNumbered w → (n : ℕ) (log : NodeLog A) (user : List ℕ) → log_of n w.network.logs ≡ Some log → IsGiven w (next_id log user) → ⊥
  not_given w numbered n log user at given =
      let same : given.log ≡ log = some_same given.log log (sym given.at ∙ ap (λ k. log_of k w.network.logs) (numbered n log at) ∙ at) in
      let count : submits_of user given.log.inputs ≡ submits_of user log.inputs = ap (λ (l : NodeLog A). submits_of user l.inputs) same in
      let within : 1 + submits_of user log.inputs ≤ submits_of user given.log.inputs = given.within in
      absurd (omega (arith, count, within))

  counts_own : (user : List ℕ) (op : Op A) → counts user (input.Submit user op) ≡ 1
  counts_own user op = rw (same_bytes user) refl
    where
      same_bytes : (user : List ℕ) → bytes_eq user user ≡ true
      same_bytes user = (bytes_eq-Decides user user).1 refl

  pub now_given : (w : Service A) → AreNumbered w → (n : ℕ) (log : NodeLog A) (user : List ℕ) (op : Op A) → log_of n w.network.logs ≡ Some log → is_up (Some log) ≡ true
      → IsGiven (at_nodes w (Submits n user op)) (next_id log user)
  now_given w numbered n log user op at up =
      let push = submits_of-push user log.inputs (input.Submit user op) in
      let one = counts_own user op in
      record {
        log = logged log (input.Submit user op);
        at = ap (λ k. log_of k (at_nodes w (Submits n user op)).network.logs) (numbered n log at) ∙ submitted_log w.network n log user op at up;
        within = omega (arith, push, one);
      }

  -- What a session awaits after a happening

  -- the command is new
  pub record IsNew (w later : Service A) (id : CommandId) : Type 0 where
    pub before : IsGiven w id → ⊥
    pub after : IsGiven later id

  -- each command that a session awaits later it awaits before, or the session is this one and the command is new
  abbrev pub Awaits : Service A → ℕ → Service A → Type 0
  Awaits w session later = (s : ℕ) (id : CommandId) → IsAwaitedBy later s id → IsAwaitedBy w s id ⊎ ((s ≡ session) × IsNew w later id)

  pub same_clients : (w later : Service A) (s : ℕ) (id : CommandId) → later.clients ≡ w.clients → IsAwaitedBy later s id → IsAwaitedBy w s id
  same_clients w later s id same a = record { client = a.client; state = a.state; its = ap (client_of s) (sym same) ∙ a.its; waits = a.waits }

  pub nothing_new : (w later : Service A) (session : ℕ) → later.clients ≡ w.clients → Awaits w session later
  nothing_new w later session same s id a = inl (same_clients w later s id same a)

  -- if the client of one session is another
  put_awaits : (w later : Service A) (session : ℕ) (d : Client A) → later.clients ≡ with_client session d w.clients → (s : ℕ) (id : CommandId) → IsAwaitedBy later s id
      → ((s ≡ session) × ((state : State A) × (d.standing ≡ Waits state id))) ⊎ IsAwaitedBy w s id
  put_awaits w later session d same s id a =
      go (eqb s session) refl (sym (at_inserted session s d w.clients) ∙ ap (client_of s) (sym same) ∙ a.its)
    where
      go : (t : Bool) → eqb s session ≡ t → cond t (Some d) (client_of s w.clients) ≡ Some a.client → ((s ≡ session) × ((state : State A) × (d.standing ≡ Waits state id))) ⊎ IsAwaitedBy w s id
      go true q e =
          let one : d ≡ a.client = some_same d a.client e in
          inl (eqb-true s session q, (a.state, ap (λ (c : Client A). c.standing) one ∙ a.waits))
      go false q e = inr (record { client = a.client; state = a.state; its = e; waits = a.waits })

  -- one that awaits nothing
  abbrev IsQuiet : Standing A → Type 0
  IsQuiet standing = (state : State A) (id : CommandId) → standing ≡ Waits state id → ⊥

  hears_quiet : (state : State A) → IsQuiet (Hears state)
  hears_quiet state other id e = absurd (cc)

  shut_quiet : (lock : Option (List ℕ × Ticket)) → IsQuiet (Failed lock)
  shut_quiet lock other id e = absurd (cc)

  over_quiet : IsQuiet Over
  over_quiet other id e = absurd (cc)

  -- after an answer that fits the session hears lines, or is over
  turn_quiet : (c : Client A) (state : State A) (ticket : Ticket) (outcome : Outcome A) (turn : Option (Turn A)) → by_answer state ticket outcome ≡ turn → IsQuiet (by_turn c turn).standing
  turn_quiet c state ticket outcome None e = over_quiet
  turn_quiet c state ticket outcome (Some turn) e =
      go turn.step refl
    where
      go : (step : Step A) → turn.step ≡ step → IsQuiet (after_answer c turn.state step).standing
      go (Say bytes) q = hears_quiet turn.state
      go (SayAndClose bytes) q = over_quiet
      go (Ask user op) q =
          let settled = answer_settles state ticket outcome turn e in
          let asks = subst (λ (x : Step A). IsSettled x turn.state) q settled.settles in
          absurd (cc (asks, settled.says))

  quiet_awaits : (w later : Service A) (session : ℕ) (d : Client A) → later.clients ≡ with_client session d w.clients → IsQuiet d.standing → Awaits w session later
  quiet_awaits w later session d same quiet s id a =
      ⊎_elim
      (λ (x : (s ≡ session) × ((state : State A) × (d.standing ≡ Waits state id))). absurd (quiet x.1.0 id x.1.1))
      (λ (x : IsAwaitedBy w s id). inl x)
      (put_awaits w later session d same s id a)

  -- the session of an event, if it has one
  abbrev pub its_session : Event A → ℕ
  its_session (event.Connect session node stamp) = session
  its_session (event.Line session line) = session
  its_session (event.Hangup session) = session
  its_session (event.Collect session) = session
  its_session e = 0

  abbrev pub session_in : Happening A → ℕ
  session_in (Occurs e) = its_session e
  session_in (Lost session) = session

  module _ (cfg : Config A) (w : Service A) (numbered : AreNumbered w) where
    up_awaits : (session : ℕ) (o : Option (NodeLog A)) (act : NodeLog A → Service A) → ((log : NodeLog A) → o ≡ Some log → is_up (Some log) ≡ true → Awaits w session (act log)) → Awaits w session (if_up w o act)
    up_awaits session None act h = nothing_new w w session refl
    up_awaits session (Some log) act h =
        go (is_up (Some log)) refl
      where
        go : (t : Bool) → is_up (Some log) ≡ t → Awaits w session (cond t (act log) w)
        go true up = h log refl up
        go false up = nothing_new w w session refl

    served_awaits : (session : ℕ) (o : Option (Client A)) (act : Client A → NodeLog A → Service A)
        → ((c : Client A) (log : NodeLog A) → o ≡ Some c → log_of c.node w.network.logs ≡ Some log → is_up (Some log) ≡ true → Awaits w session (act c log)) → Awaits w session (if_served w o act)
    served_awaits session None act h = nothing_new w w session refl
    served_awaits session (Some c) act h = up_awaits session (log_of c.node w.network.logs) (act c) (λ log at up. h c log refl at up)

    connects_awaits : (session : ℕ) (d : Client A) (known : Option (Client A)) → IsQuiet d.standing → Awaits w session (connects w session d known)
    connects_awaits session d None quiet = quiet_awaits w (keeps w session d) session d refl quiet
    connects_awaits session d (Some c) quiet = nothing_new w w session refl

    module _ (session : ℕ) (c : Client A) (log : NodeLog A) (its : client_of session w.clients ≡ Some c) (at : log_of c.node w.network.logs ≡ Some log) (up : is_up (Some log) ≡ true) where
      asks_awaits : (d : Client A) (user : List ℕ) (op : Op A) (state : State A) → d.node ≡ c.node → d.standing ≡ Waits state (next_id log user) → Awaits w session (submits_for w session d user op)
      asks_awaits d user op state same stands s id a =
          ⊎_elim
          (λ (x : (s ≡ session) × ((state : State A) × (d.standing ≡ Waits state id))).
          let one : next_id log user ≡ id = waits_same state x.1.0 (next_id log user) id (sym stands ∙ x.1.1) in
          let its_log : log_of d.node w.network.logs ≡ Some log = ap (λ n. log_of n w.network.logs) same ∙ at in
          inr (x.0, subst (IsNew w (submits_for w session d user op)) one (record { before = not_given w numbered c.node log user at; after = given_kept (now_given w numbered d.node log user op its_log up) })))
          (λ (x : IsAwaitedBy w s id). inl x)
          (put_awaits w (submits_for w session d user op) session d refl s id a)
        where
          waits_same : (state other : State A) (id id2 : CommandId) → Waits state id ≡ Waits other id2 → id ≡ id2
          waits_same state other id id2 e = cc

          given_kept : {id : CommandId} → IsGiven (at_nodes w (Submits d.node user op)) id → IsGiven (submits_for w session d user op) id
          given_kept g = record { log = g.log; at = g.at; within = g.within }

      step_awaits : (line : Line) (state : State A) (step : Step A) → Awaits w session (after_line w session (with_line c line) log state step)
      step_awaits line state (Say bytes) = quiet_awaits w _ session (told (with_line c line) bytes (Hears state)) refl (hears_quiet state)
      step_awaits line state (SayAndClose bytes) = quiet_awaits w _ session (told (with_line c line) bytes Over) refl over_quiet
      step_awaits line state (Ask user op) = asks_awaits (asking (with_line c line) ((next_id log user).ticket) (Waits state (next_id log user))) user op state refl refl

      line_awaits : (line : Line) (standing : Standing A) → Awaits w session (hears_line cfg w session line c log standing)
      line_awaits line (Hears state) = step_awaits line (by_line cfg.accounts c.stamp state line).state (by_line cfg.accounts c.stamp state line).step
      line_awaits line (Waits state id) = nothing_new w w session refl
      line_awaits line (Failed lock) = nothing_new w w session refl
      line_awaits line Disconnected = nothing_new w w session refl
      line_awaits line Over = nothing_new w w session refl

      gives_awaits : (free : Option (List ℕ × Op A)) → Awaits w session (gives_back w session (standing_as c Over) free)
      gives_awaits None = quiet_awaits w _ session (standing_as c Over) refl over_quiet
      gives_awaits (Some free) = quiet_awaits w _ session (standing_as c Over) refl over_quiet

      hangup_awaits : (standing : Standing A) → Awaits w session (hangs_up w session c log standing)
      hangup_awaits (Hears state) = gives_awaits (free_of (lock_due state))
      hangup_awaits (Failed lock) = gives_awaits (free_of lock)
      hangup_awaits (Waits state id) = nothing_new w w session refl
      hangup_awaits Disconnected = nothing_new w w session refl
      hangup_awaits Over = nothing_new w w session refl

      answer_awaits : (state : State A) (ticket : Ticket) (o : Option (Outcome A)) → Awaits w session (takes_answer w session c state ticket o)
      answer_awaits state ticket None = nothing_new w w session refl
      answer_awaits state ticket (Some outcome) = quiet_awaits w _ session (by_turn c (by_answer state ticket outcome)) refl (turn_quiet c state ticket outcome (by_answer state ticket outcome) refl)

      collect_awaits : (standing : Standing A) → Awaits w session (collects w session c log standing)
      collect_awaits (Waits state id) = answer_awaits state id.ticket (answered log id)
      collect_awaits (Hears state) = nothing_new w w session refl
      collect_awaits (Failed lock) = nothing_new w w session refl
      collect_awaits Disconnected = nothing_new w w session refl
      collect_awaits Over = nothing_new w w session refl

      loses_awaits : (state : State A) (ticket : Ticket) (o : Option (Outcome A)) → Awaits w session (loses_answer w session c state ticket o)
      loses_awaits state ticket None = nothing_new w w session refl
      loses_awaits state ticket (Some outcome) = quiet_awaits w _ session (standing_as c (Failed (lock_got state ticket outcome))) refl (shut_quiet (lock_got state ticket outcome))

      lost_awaits : (standing : Standing A) → Awaits w session (is_lost w session c log standing)
      lost_awaits (Hears state) = quiet_awaits w _ session (standing_as c (Failed (lock_due state))) refl (shut_quiet (lock_due state))
      lost_awaits (Waits state id) = loses_awaits state id.ticket (answered log id)
      lost_awaits (Failed lock) = nothing_new w w session refl
      lost_awaits Disconnected = nothing_new w w session refl
      lost_awaits Over = nothing_new w w session refl

    crash_awaits : (node : ℕ) (log : NodeLog A) → Awaits w 0 (crashes w node log)
    crash_awaits node log s id a =
        let found = at_without node s a.client w.clients a.its in
        inl (record { client = found.0; state = a.state; its = found.1; waits = go found.0 (eqb found.0.node node) (ap (λ (c : Client A). c.standing) found.2 ∙ a.waits) })
      where
        stranded_quiet : (standing : Standing A) → IsQuiet (disconnected standing)
        stranded_quiet (Hears state) other id e = absurd (cc)
        stranded_quiet (Waits state its) other id e = absurd (cc)
        stranded_quiet (Failed lock) other id e = absurd (cc)
        stranded_quiet Disconnected other id e = absurd (cc)
        stranded_quiet Over other id e = absurd (cc)

        go : (c : Client A) (t : Bool) → (cond t (standing_as c (disconnected c.standing)) c).standing ≡ Waits a.state id → c.standing ≡ Waits a.state id
        go c true e = absurd (stranded_quiet c.standing a.state id e)
        go c false e = e

    occurs_awaits : (e : Event A) → Awaits w (its_session e) (occurs cfg w e)
    occurs_awaits (event.Connect session node stamp) = up_awaits session (log_of node w.network.logs) _ (λ log at up. connects_awaits session (new_client node stamp) (client_of session w.clients) (hears_quiet _))
    occurs_awaits (event.Line session line) = served_awaits session (client_of session w.clients) _ (λ c log its at up. line_awaits session c log its at up line c.standing)
    occurs_awaits (event.Hangup session) = served_awaits session (client_of session w.clients) _ (λ c log its at up. hangup_awaits session c log its at up c.standing)
    occurs_awaits (event.Collect session) = served_awaits session (client_of session w.clients) _ (λ c log its at up. collect_awaits session c log its at up c.standing)
    occurs_awaits (event.Mail node user text key) = nothing_new w _ 0 refl
    occurs_awaits (event.Break node user) = nothing_new w _ 0 refl
    occurs_awaits (event.Arrive which) = nothing_new w _ 0 refl
    occurs_awaits (event.Tick node) = nothing_new w _ 0 refl
    occurs_awaits (event.Campaign node) = nothing_new w _ 0 refl
    occurs_awaits (event.Crash node) = up_awaits 0 (log_of node w.network.logs) _ (λ log at up. crash_awaits node log)

    pub happens_awaits : (h : Happening A) → Awaits w (session_in h) (happens cfg w h)
    happens_awaits (Occurs e) = occurs_awaits e
    happens_awaits (Lost session) = served_awaits session (client_of session w.clients) _ (λ c log its at up. lost_awaits session c log its at up c.standing)

  -- A session takes an answer, or is lost

  -- the answer that a session awaits is there
  record IsReady (o : Option (NodeLog A)) (standing : Standing A) : Type 0 where
    log : NodeLog A
    state : State A
    id : CommandId
    outcome : Outcome A
    at : o ≡ Some log
    up : is_up (Some log) ≡ true
    waits : standing ≡ Waits state id
    there : answered log id ≡ Some outcome

  ready : (o : Option (NodeLog A)) (standing : Standing A) → collect_refusal o standing ≡ None → IsReady o standing
  ready None (Waits state id) e = absurd (cc)
  ready (Some log) (Waits state id) e =
      go (is_up (Some log)) (answered log id) refl refl e
    where
      go : (t : Bool) (a : Option (Outcome A)) → is_up (Some log) ≡ t → answered log id ≡ a → cond t (busy_without a) (Some Down) ≡ None → IsReady (Some log) (Waits state id)
      go true None up there q = absurd (cc)
      go true (Some outcome) up there q = record { log = log; state = state; id = id; outcome = outcome; at = refl; up = up; waits = refl; there = there }
      go false a up there q = absurd (cc)
  ready o (Hears state) e =
      go (is_up o) e
    where
      go : (t : Bool) → cond t (Some Busy) (Some Down) ≡ None → IsReady o (Hears state)
      go true q = absurd (cc)
      go false q = absurd (cc)
  ready o (Failed lock) e = absurd (cc)
  ready o Disconnected e = absurd (cc)
  ready o Over e = absurd (cc)

  -- if a client is put in that awaits nothing, its session awaits nothing
  put_quiet : (w later : Service A) (session : ℕ) (d : Client A) → later ≡ keeps w session d → IsQuiet d.standing → (id : CommandId) → IsAwaitedBy later session id → ⊥
  put_quiet w later session d same quiet id a =
      let its : client_of session (with_client session d w.clients) ≡ Some a.client = ap (λ (x : Service A). client_of session x.clients) (sym same) ∙ a.its in
      let here : Some d ≡ Some a.client = sym (at_inserted session session d w.clients ∙ rw (eq-eqb session session refl) refl) ∙ its in
      let one : d ≡ a.client = some_same d a.client here in
      quiet a.state id (ap (λ (c : Client A). c.standing) one ∙ a.waits)

  module _ (cfg : Config A) (w later : Service A) (session : ℕ) (possible : refusal_of w (event.Collect session) ≡ None) where
    -- the client of the session, whose answer is there
    record IsServing : Type 0 where
      client : Client A
      its : client_of session w.clients ≡ Some client
      ready : IsReady (log_of client.node w.network.logs) client.standing

    serving : IsServing
    serving =
        go (client_of session w.clients) refl possible
      where
        go : (o : Option (Client A)) → client_of session w.clients ≡ o → client_refusal w o collect_refusal ≡ None → IsServing
        go None its e = absurd (cc)
        go (Some c) its e = record { client = c; its = its; ready = ready (log_of c.node w.network.logs) c.standing e }

    -- what its client does
    does : (act : Client A → NodeLog A → Service A) → if_served w (client_of session w.clients) act ≡ act serving.client serving.ready.log
    does act =
        ap (λ o. if_served w o act) serving.its
        ∙ ap (λ o. if_up w o (act serving.client)) serving.ready.at
        ∙ rw (serving.ready.up) refl

    pub collected_quiet : later ≡ occurs cfg w (event.Collect session) → (id : CommandId) → IsAwaitedBy later session id → ⊥
    collected_quiet moved =
        let c = serving.client in
        let r = serving.ready in
        put_quiet w later session (by_turn c (by_answer r.state r.id.ticket r.outcome))
        (moved ∙ does (λ x log. collects w session x log x.standing) ∙ ap (collects w session c r.log) r.waits ∙ ap (takes_answer w session c r.state r.id.ticket) r.there)
        (turn_quiet c r.state r.id.ticket r.outcome (by_answer r.state r.id.ticket r.outcome) refl)

    pub lost_quiet : later ≡ happens cfg w (Lost session) → (id : CommandId) → IsAwaitedBy later session id → ⊥
    lost_quiet moved =
        let c = serving.client in
        let r = serving.ready in
        put_quiet w later session (standing_as c (Failed (lock_got r.state r.id.ticket r.outcome)))
        (moved ∙ does (λ x log. is_lost w session x log x.standing) ∙ ap (is_lost w session c r.log) r.waits ∙ ap (loses_answer w session c r.state r.id.ticket) r.there)
        (shut_quiet (lock_got r.state r.id.ticket r.outcome))

  -- In every run

  pub record IsDistinct (w : Service A) : Type 0 where
    pub given : (s : ℕ) (id : CommandId) → IsAwaitedBy w s id → IsGiven w id
    pub one : (s t : ℕ) (id : CommandId) → IsAwaitedBy w s id → IsAwaitedBy w t id → s ≡ t

  abbrev Either : Config A → Happening A → Service A → ℕ → CommandId → Type 0
  Either cfg h w s id = IsAwaitedBy w s id ⊎ ((s ≡ session_in h) × IsNew w (happens cfg w h) id)

  next_distinct : (cfg : Config A) (w : Service A) (h : Happening A) → AreNumbered w → IsDistinct w → IsDistinct (happens cfg w h)
  next_distinct cfg w h numbered distinct =
      record {
        given = λ s id a.
            ⊎_elim
            (λ (x : IsAwaitedBy w s id). given_later cfg w h id (distinct.given s id x))
            (λ (x : (s ≡ session_in h) × IsNew w (happens cfg w h) id). x.1.after)
            (moves s id a);
        one = λ s t id a b. go s t id (moves s id a) (moves t id b);
      }
    where
      moves : Awaits w (session_in h) (happens cfg w h)
      moves = happens_awaits cfg w numbered h

      go : (s t : ℕ) (id : CommandId) → Either cfg h w s id → Either cfg h w t id → s ≡ t
      go s t id (inl x) (inl y) = distinct.one s t id x y
      go s t id (inl x) (inr y) = absurd (y.1.before (distinct.given s id x))
      go s t id (inr x) (inl y) = absurd (x.1.before (distinct.given t id y))
      go s t id (inr x) (inr y) = x.0 ∙ sym y.0

  all_distinct : (cfg : Config A) (w : Service A) (hs : List (Happening A)) → AreOfRun cfg w → IsDistinct w → IsDistinct (fold (happens cfg) w hs)
  all_distinct cfg w [] run distinct = distinct
  all_distinct cfg w (h ∷ hs) run distinct = all_distinct cfg (happens cfg w h) hs (next_of_run cfg w h run) (next_distinct cfg w h (are_numbered cfg w run) distinct)

  pub every_distinct : (cfg : Config A) (hs : List (Happening A)) → IsDistinct (run_of cfg hs)
  every_distinct cfg hs = all_distinct cfg (new_service cfg) hs ([], refl) (record { given = λ s id a. nobody s id a; one = λ s t id a b. nobody s id a })
    where
      nobody : {P : Type 0} (s : ℕ) (id : CommandId) → IsAwaitedBy (new_service cfg) s id → P
      nobody s id a = let its = a.its in absurd (cc (its))
