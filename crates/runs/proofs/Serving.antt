-- Each client of each run of a service is served.
use Rattle.std.proofs.Common.{◌≡◌, ◌⊎◌, ℕ, ◌-◌, List, [], ◌∷◌, ◌++◌, Bool, true, false, Option, Some, None, refl, sym, ap, ◌∙◌, subst, inl, inr, ⊎_elim, cond, eqb, set}
use Rattle.std.specs.Prelude.{slice_get, fold}
use Rattle.std.proofs.lemmas.Bool.{eqb-true}
use Rattle.std.proofs.lemmas.List.{append-nil}
use Rattle.maildrop.specs.CommandId.{CommandId}
use Rattle.maildrop.specs.declared.command.Command.{Command}
use Rattle.maildrop.specs.declared.op.Op.{Op}
use Rattle.maildrop.specs.declared.op.Op.TheVariants as op
use Rattle.maildrop.specs.declared.outcome.Outcome.{Outcome}
use Rattle.apop.specs.Stamp.{Stamp}
use Rattle.pop3_wire.specs.declared.line.Line.{Line}
use Rattle.session.specs.Alone.{outcome_of}
use Rattle.session.specs.Session.{takes_line, by_line, by_answer, lock_due, lock_got, free_of}
use Rattle.session.specs.declared.state.State.{State}
use Rattle.session.specs.declared.state.Step.{Step}
use Rattle.session.specs.declared.state.Step.TheVariants.{Say, Ask, SayAndClose}
use Rattle.session.specs.declared.state.Turn.{Turn}
use Rattle.node.specs.Nodes.{answered, logged}
use Rattle.node.specs.Replay.{sends_of}
use Rattle.node.specs.declared.input.Input.{Input}
use Rattle.node.specs.declared.input.Input.TheVariants as input
use Rattle.node.specs.declared.log.NodeLog.{NodeLog}
use Rattle.runs.specs.Clients.{Standing, Hears, Waits, Failed, Disconnected, Over, Client, new_client, standing_as, with_line, client_of, with_client, without_node, all_without_node}
use Rattle.runs.specs.Messages.{Network, NodeEvent, Submits, Arrives, Ticks, Campaigns, Crashes, log_of, is_up, newly_sent, taken_by, given_input, with_arrival, message_arrives}
use Rattle.runs.specs.Messages as network
use Rattle.runs.specs.Projection.{decided}
use Rattle.node.specs.Outcomes.{first_maildrop, own_of}
use Rattle.runs.specs.Services.{Service, Happening, Occurs, Lost, opening_of, new_service, at_nodes, keeps, submits_for, if_up, if_served, connects, after_line, hears_line, after_answer, by_turn, takes_answer, collects, gives_back, hangs_up, loses_answer, is_lost, crashes, occurs, happens, run_of}
use Rattle.runs.specs.declared.config.Config.{Config}
use Rattle.runs.specs.declared.event.Event.{Event}
use Rattle.runs.specs.declared.event.Event.TheVariants as event
use Rattle.runs.specs.declared.sent.Sent.{Sent}
use Rattle.runs.proofs.Logs.{some_same, log_set, log_same}
use Rattle.runs.proofs.ServiceRuns.{AreOfRun, next_of_run, decided_grows, answer_is_own}
use Rattle.runs.proofs.Sessions.{IsServed, tickets_in, Stands, later_served, new_served, ended, without_served, line_says, line_closes, line_asks, answer_served}

module _ {A : Type 0} where
  -- Logs only grow

  -- the log of the node is this one, with more inputs
  abbrev pub Logs : Network A → ℕ → NodeLog A → Type 0
  Logs w n log = (more : List (Input A)) × (log_of n w.logs ≡ Some (record { opening = log.opening; inputs = log.inputs ++ more }))

  logs_same : (w : Network A) (n : ℕ) (log : NodeLog A) → log_of n w.logs ≡ Some log → Logs w n log
  logs_same w n log e = ([], e ∙ ap (λ is. Some (record { opening = log.opening; inputs = is })) (sym (append-nil log.inputs)))

  takes_logs : (w : Network A) (m : ℕ) (i : Input A) (n : ℕ) (log : NodeLog A) → log_of n w.logs ≡ Some log → Logs (given_input w m i) n log
  takes_logs w m i n log e =
      go (log_of m w.logs) refl
    where
      one : (its : NodeLog A) → log_of m w.logs ≡ Some its → (t : Bool) → eqb n m ≡ t → (more : List (Input A)) × (cond t (Some (logged its i)) (log_of n w.logs) ≡ Some (record { opening = log.opening; inputs = log.inputs ++ more }))
      one its f true q =
          let same : its ≡ log = some_same its log (sym f ∙ ap (λ k. log_of k w.logs) (sym (eqb-true n m q)) ∙ e) in
          (i ∷ [], ap (λ l. Some (logged l i)) same)
      one its f false q = logs_same w n log e

      up : (its : NodeLog A) → log_of m w.logs ≡ Some its → (t : Bool) → Logs (cond t (record { logs = set w.logs (m - 1) (logged its i); sent = w.sent ++ newly_sent (sends_of its i) }) w) n log
      up its f true =
          let x = one its f (eqb n m) refl in
          (x.0, log_set w.logs m its (logged its i) f n ∙ x.1)
      up its f false = logs_same w n log e

      go : (o : Option (NodeLog A)) → log_of m w.logs ≡ o → Logs (taken_by w m i o) n log
      go None f = logs_same w n log e
      go (Some its) f = up its f (is_up (Some its))

  arrives_logs : (w : Network A) (which : ℕ) (o : Option (Sent A)) (n : ℕ) (log : NodeLog A) → log_of n w.logs ≡ Some log → Logs (message_arrives w which o) n log
  arrives_logs w which None n log e = logs_same w n log e
  arrives_logs w which (Some s) n log e =
      go (is_up (log_of s.envelope.to w.logs))
    where
      go : (t : Bool) → Logs (cond t (given_input (record { logs = w.logs; sent = with_arrival which w.sent }) s.envelope.to (input.Arrive s.envelope)) w) n log
      go true = takes_logs (record { logs = w.logs; sent = with_arrival which w.sent }) s.envelope.to (input.Arrive s.envelope) n log e
      go false = logs_same w n log e

  pub happens_logs : (w : Network A) (event : NodeEvent A) (n : ℕ) (log : NodeLog A) → log_of n w.logs ≡ Some log → Logs (network.after_node_event w event) n log
  happens_logs w (Submits m name op) n log e = takes_logs w m (input.Submit name op) n log e
  happens_logs w (Arrives which) n log e = arrives_logs w which (slice_get w.sent which) n log e
  happens_logs w (Ticks m) n log e = takes_logs w m input.Tick n log e
  happens_logs w (Campaigns m) n log e = takes_logs w m input.Campaign n log e
  happens_logs w (Crashes m) n log e = takes_logs w m input.Crash n log e

  -- a Submit at a node that is up is logged
  pub submitted_log : (w : Network A) (n : ℕ) (log : NodeLog A) (user : List ℕ) (op : Op A) → log_of n w.logs ≡ Some log → is_up (Some log) ≡ true →
      log_of n (network.after_node_event w (Submits n user op)).logs ≡ Some (logged log (input.Submit user op))
  submitted_log w n log user op e up =
      go (log_of n w.logs) e
    where
      i : Input A
      i = input.Submit user op

      one : (t : Bool) → t ≡ true → log_of n (cond t (record { logs = set w.logs (n - 1) (logged log (input.Submit user op)); sent = w.sent ++ newly_sent (sends_of log (input.Submit user op)) }) w).logs ≡ Some (logged log (input.Submit user op))
      one true q = log_same w.logs n log (logged log (input.Submit user op)) e
      one false q = absurd (cc)

      go : (o : Option (NodeLog A)) → o ≡ Some log → log_of n (taken_by w n (input.Submit user op) o).logs ≡ Some (logged log (input.Submit user op))
      go None q = absurd (cc)
      go (Some its) q =
          let same : log ≡ its = cc in
          subst (λ l. log_of n (taken_by w n (input.Submit user op) (Some l)).logs ≡ Some (logged log (input.Submit user op))) same (one (is_up (Some log)) up)

  -- The clients

  at_with : (session s : ℕ) (c x : Client A) (clients : List (ℕ × Client A)) → client_of s (with_client session c clients) ≡ Some x → (c ≡ x) ⊎ (client_of s clients ≡ Some x)
  at_with session s c x [] h =
      go (eqb s session) h
    where
      go : (t : Bool) → cond t (Some c) None ≡ Some x → (c ≡ x) ⊎ (client_of s [] ≡ Some x)
      go true q = inl (cc)
      go false q = absurd (cc)
  at_with session s c x (e ∷ es) h =
      go (eqb session e.0) (at_with session s c x es) h
    where
      here : (t : Bool) → cond t (Some c) (client_of s es) ≡ Some x → (c ≡ x) ⊎ (cond t (Some e.1) (client_of s es) ≡ Some x)
      here true q = inl (cc)
      here false q = inr q

      there : (t : Bool) → (client_of s (with_client session c es) ≡ Some x → (c ≡ x) ⊎ (client_of s es ≡ Some x)) → cond t (Some e.1) (client_of s (with_client session c es)) ≡ Some x → (c ≡ x) ⊎ (cond t (Some e.1) (client_of s es) ≡ Some x)
      there true ih q = inr q
      there false ih q = ih q

      go : (t : Bool) → (client_of s (with_client session c es) ≡ Some x → (c ≡ x) ⊎ (client_of s es ≡ Some x)) → client_of s (cond t ((e.0, c) ∷ es) (e ∷ with_client session c es)) ≡ Some x → (c ≡ x) ⊎ (client_of s (e ∷ es) ≡ Some x)
      go true ih q = here (eqb s e.0) q
      go false ih q = there (eqb s e.0) ih q

  pub at_without : (node s : ℕ) (x : Client A) (clients : List (ℕ × Client A)) → client_of s (all_without_node node clients) ≡ Some x → (c : Client A) × (client_of s clients ≡ Some c) × (without_node node c ≡ x)
  at_without node s x [] h = absurd (cc)
  at_without node s x (e ∷ es) h =
      go (eqb s e.0) (at_without node s x es) h
    where
      go : (t : Bool) → (client_of s (all_without_node node es) ≡ Some x → (c : Client A) × (client_of s es ≡ Some c) × (without_node node c ≡ x)) →
          cond t (Some (without_node node e.1)) (client_of s (all_without_node node es)) ≡ Some x → (c : Client A) × (cond t (Some e.1) (client_of s es) ≡ Some c) × (without_node node c ≡ x)
      go true ih q = (e.1, refl, cc)
      go false ih q = ih q

  -- the client's node is in the network, and the client is served there
  abbrev pub IsServedIn : Config A → List (ℕ × Command A) → Network A → Client A → Type 0
  IsServedIn cfg order w c = (log : NodeLog A) × (log_of c.node w.logs ≡ Some log) × IsServed cfg order log c

  abbrev pub AreServed : Config A → List (ℕ × Command A) → Service A → Type 0
  AreServed cfg order w = (session : ℕ) (c : Client A) → client_of session w.clients ≡ Some c → IsServedIn cfg order w.network c

  module _ (cfg : Config A) (order : List (ℕ × Command A)) where
    no_more : List (ℕ × Command A)
    no_more = []

    -- the nodes go on
    network_served : (w : Network A) (e : NodeEvent A) (c : Client A) → IsServedIn cfg order w c → IsServedIn cfg order (network.after_node_event w e) c
    network_served w e c h =
        let x = happens_logs w e c.node h.0 h.1 in
        (record { opening = h.0.opening; inputs = h.0.inputs ++ x.0 }, x.1, later_served cfg order h.0 x.0 order c ([], append-nil order) h.2)

    nodes_served : (w : Service A) (e : NodeEvent A) → AreServed cfg order w → AreServed cfg order (at_nodes w e)
    nodes_served w e all session c at = network_served w.network e c (all session c at)

    keeps_served : (w : Service A) (session : ℕ) (c : Client A) → AreServed cfg order w → IsServedIn cfg order w.network c → AreServed cfg order (keeps w session c)
    keeps_served w session c all h s x at =
        ⊎_elim (λ (q : c ≡ x). subst (IsServedIn cfg order w.network) q h) (λ (q : client_of s w.clients ≡ Some x). all s x q) (at_with session s c x w.clients at)

    module _ (w : Service A) (all : AreServed cfg order w)
        (right : (node : ℕ) (log : NodeLog A) (id : CommandId) (o : Outcome A) → log_of node w.network.logs ≡ Some log → answered log id ≡ Some o →
        outcome_of (first_maildrop (opening_of cfg) id.user) id.ticket (own_of id.user order) ≡ Some o) where
      abbrev Fine : Service A → Type 0
      Fine later = AreServed cfg order later

      if_up_fine : (o : Option (NodeLog A)) (act : NodeLog A → Service A) → ((log : NodeLog A) → o ≡ Some log → is_up (Some log) ≡ true → Fine (act log)) → Fine (if_up w o act)
      if_up_fine None act fine = all
      if_up_fine (Some log) act fine =
          go (is_up (Some log)) refl
        where
          go : (t : Bool) → is_up (Some log) ≡ t → Fine (cond t (act log) w)
          go true up = fine log refl up
          go false up = all

      if_served_fine : (o : Option (Client A)) (act : Client A → NodeLog A → Service A) →
          ((c : Client A) (log : NodeLog A) → o ≡ Some c → log_of c.node w.network.logs ≡ Some log → is_up (Some log) ≡ true → Fine (act c log)) → Fine (if_served w o act)
      if_served_fine None act fine = all
      if_served_fine (Some c) act fine = if_up_fine (log_of c.node w.network.logs) (act c) (λ log at up. fine c log refl at up)

      module _ (session : ℕ) (c : Client A) (log : NodeLog A) (at : log_of c.node w.network.logs ≡ Some log) (up : is_up (Some log) ≡ true) (s : IsServed cfg order log c) where
        keeps_fine : (next : Client A) → next.node ≡ c.node → IsServed cfg order log next → Fine (keeps w session next)
        keeps_fine next same served = keeps_served w session next all (log, ap (λ n. log_of n w.network.logs) same ∙ at, served)

        submits_fine : (next : Client A) (user : List ℕ) (op : Op A) → next.node ≡ c.node → IsServed cfg order (logged log (input.Submit user op)) next → Fine (submits_for w session next user op)
        submits_fine next user op same served =
            keeps_served (at_nodes w (Submits next.node user op)) session next (nodes_served w (Submits next.node user op) all)
            (logged log (input.Submit user op), submitted_log w.network next.node log user op (ap (λ n. log_of n w.network.logs) same ∙ at) up, served)

        step_fine : (line : Line) → takes_line s.talk.state ≡ true → tickets_in s.talk.answers ≡ c.tickets → (step : Step A) → (by_line cfg.accounts c.stamp s.talk.state line).step ≡ step →
            Fine (after_line w session (with_line c line) log (by_line cfg.accounts c.stamp s.talk.state line).state step)
        step_fine line hearing tickets (Say bytes) e = keeps_fine _ refl (line_says cfg order log c s line hearing tickets bytes e)
        step_fine line hearing tickets (SayAndClose bytes) e = keeps_fine _ refl (line_closes cfg order log c s line hearing tickets bytes e)
        step_fine line hearing tickets (Ask user op) e = submits_fine _ user op refl (line_asks cfg order log c s line hearing tickets user op e)

        line_fine : (line : Line) (standing : Standing A) → Stands s.talk c.tickets standing → Fine (hears_line cfg w session line c log standing)
        line_fine line (Hears state) h =
            subst (λ st. Fine (after_line w session (with_line c line) log (by_line cfg.accounts c.stamp st line).state (by_line cfg.accounts c.stamp st line).step)) h.0
            (step_fine line (ap takes_line h.0 ∙ h.1) h.2 (by_line cfg.accounts c.stamp s.talk.state line).step refl)
        line_fine line (Waits state id) h = all
        line_fine line (Failed lock) h = all
        line_fine line Disconnected h = all
        line_fine line Over h = all

        turn_node : (turn : Option (Turn A)) → (by_turn c turn).node ≡ c.node
        turn_node None = refl
        turn_node (Some turn) =
            go turn.step
          where
            go : (step : Step A) → (after_answer c turn.state step).node ≡ c.node
            go (Say bytes) = refl
            go (SayAndClose bytes) = refl
            go (Ask user op) = refl

        answer_fine : (state : State A) (id : CommandId) → Stands s.talk c.tickets (Waits state id) → (o : Option (Outcome A)) → answered log id ≡ o → Fine (takes_answer w session c state id.ticket o)
        answer_fine state id h None e = all
        answer_fine state id h (Some o) e =
            keeps_fine (by_turn c (by_answer state id.ticket o)) (turn_node (by_answer state id.ticket o))
            (answer_served cfg order log c s state id h.0 h.1 h.2 o (right c.node log id o at e))

        collect_fine : (standing : Standing A) → Stands s.talk c.tickets standing → Fine (collects w session c log standing)
        collect_fine (Waits state id) h = answer_fine state id h (answered log id) refl
        collect_fine (Hears state) h = all
        collect_fine (Failed lock) h = all
        collect_fine Disconnected h = all
        collect_fine Over h = all

        over : IsServed cfg order log (standing_as c Over)
        over = ended cfg order log c s Over (λ p. p)

        gives_fine : (free : Option (List ℕ × Op A)) → Fine (gives_back w session (standing_as c Over) free)
        gives_fine None = keeps_fine (standing_as c Over) refl over
        gives_fine (Some free) = submits_fine (standing_as c Over) free.0 free.1 refl (later_served cfg order log (input.Submit free.0 free.1 ∷ []) order (standing_as c Over) ([], append-nil order) over)

        hangup_fine : (standing : Standing A) → Fine (hangs_up w session c log standing)
        hangup_fine (Hears state) = gives_fine (free_of (lock_due state))
        hangup_fine (Failed lock) = gives_fine (free_of lock)
        hangup_fine (Waits state id) = all
        hangup_fine Disconnected = all
        hangup_fine Over = all

        loses_fine : (state : State A) (id : CommandId) (o : Option (Outcome A)) → Fine (loses_answer w session c state id.ticket o)
        loses_fine state id None = all
        loses_fine state id (Some o) = keeps_fine _ refl (ended cfg order log c s (Failed (lock_got state id.ticket o)) (λ p. p))

        lost_fine : (standing : Standing A) → Fine (is_lost w session c log standing)
        lost_fine (Hears state) = keeps_fine _ refl (ended cfg order log c s (Failed (lock_due state)) (λ p. p))
        lost_fine (Waits state id) = loses_fine state id (answered log id)
        lost_fine (Failed lock) = all
        lost_fine Disconnected = all
        lost_fine Over = all

      connects_fine : (session node : ℕ) (stamp : Stamp) (log : NodeLog A) → log_of node w.network.logs ≡ Some log → (known : Option (Client A)) → Fine (connects w session (new_client node stamp) known)
      connects_fine session node stamp log at None = keeps_served w session (new_client node stamp) all (log, at, new_served cfg order log node stamp)
      connects_fine session node stamp log at (Some c) = all

      crashes_fine : (node : ℕ) (log : NodeLog A) → Fine (crashes w node log)
      crashes_fine node log session x at =
          let found = at_without node session x w.clients at in
          let served = network_served w.network (Crashes node) found.0 (all session found.0 found.1) in
          subst (IsServedIn cfg order (network.after_node_event w.network (Crashes node))) found.2
          (served.0, ap (λ n. log_of n (network.after_node_event w.network (Crashes node)).logs) (same_node found.0) ∙ served.1, without_served cfg order served.0 found.0 served.2 node)
        where
          same_node : (c : Client A) → (without_node node c).node ≡ c.node
          same_node c =
              go (eqb c.node node)
            where
              go : (t : Bool) → (cond t (standing_as c (Rattle.runs.specs.Clients.disconnected c.standing)) c).node ≡ c.node
              go true = refl
              go false = refl

      -- what the client of a session does, whose log is the one that is found
      client_fine : (act : Client A → NodeLog A → Service A) → (session : ℕ) →
          ((c : Client A) (log : NodeLog A) → log_of c.node w.network.logs ≡ Some log → is_up (Some log) ≡ true → IsServed cfg order log c → Fine (act c log)) → Fine (if_served w (client_of session w.clients) act)
      client_fine act session fine =
          if_served_fine (client_of session w.clients) act (λ c log its at up.
          let h = all session c its in
          let same : h.0 ≡ log = some_same h.0 log (sym h.1 ∙ at) in
          fine c log at up (subst (λ l. IsServed cfg order l c) same h.2))

      occurs_fine : (e : Event A) → Fine (occurs cfg w e)
      occurs_fine (event.Connect session node stamp) = if_up_fine (log_of node w.network.logs) _ (λ log at up. connects_fine session node stamp log at (client_of session w.clients))
      occurs_fine (event.Line session line) = client_fine _ session (λ c log at up s. line_fine session c log at up s line c.standing s.stands)
      occurs_fine (event.Hangup session) = client_fine _ session (λ c log at up s. hangup_fine session c log at up s c.standing)
      occurs_fine (event.Collect session) = client_fine _ session (λ c log at up s. collect_fine session c log at up s c.standing s.stands)
      occurs_fine (event.Mail node user text key) = nodes_served w (Submits node user (op.Mail text key)) all
      occurs_fine (event.Break node user) = nodes_served w (Submits node user op.Break) all
      occurs_fine (event.Arrive which) = nodes_served w (Arrives which) all
      occurs_fine (event.Tick node) = nodes_served w (Ticks node) all
      occurs_fine (event.Campaign node) = nodes_served w (Campaigns node) all
      occurs_fine (event.Crash node) = if_up_fine (log_of node w.network.logs) _ (λ log at up. crashes_fine node log)

      happens_fine : (h : Happening A) → Fine (happens cfg w h)
      happens_fine (Occurs e) = occurs_fine e
      happens_fine (Lost session) = client_fine _ session (λ c log at up s. lost_fine session c log at up s c.standing)

  -- what holds of each run
  pub record IsSound (cfg : Config A) (w : Service A) : Type 0 where
    pub nodes : AreOfRun cfg w
    pub clients : AreServed cfg (decided cfg w) w

  next_sound : (cfg : Config A) (w : Service A) (h : Happening A) → IsSound cfg w → IsSound cfg (happens cfg w h)
  next_sound cfg w h sound =
      let order = decided cfg w in
      let grows = decided_grows cfg w h sound.nodes in
      let now = happens_fine cfg order w sound.clients (λ node log id o at e. answer_is_own cfg w sound.nodes node log id o at e) h in
      record {
        nodes = next_of_run cfg w h sound.nodes;
        clients = λ session c at.
            let x = now session c at in
            let later = later_served cfg order x.0 [] (decided cfg (happens cfg w h)) c grows x.2 in
            (x.0, x.1, subst (λ is. IsServed cfg (decided cfg (happens cfg w h)) (record { opening = x.0.opening; inputs = is }) c) (append-nil x.0.inputs) later);
      }

  all_sound : (cfg : Config A) (w : Service A) (hs : List (Happening A)) → IsSound cfg w → IsSound cfg (fold (happens cfg) w hs)
  all_sound cfg w [] sound = sound
  all_sound cfg w (h ∷ hs) sound = all_sound cfg (happens cfg w h) hs (next_sound cfg w h sound)

  pub every_service : (cfg : Config A) (hs : List (Happening A)) → IsSound cfg (run_of cfg hs)
  every_service cfg hs = all_sound cfg (new_service cfg) hs (record { nodes = ([], refl); clients = λ session c at. absurd (cc) })
