-- What events at connections and nodes do to the service that contracts see.
use Rattle.std.proofs.Common.{◌≡◌, ℕ, ◌-◌, List, [], ◌∷◌, ◌++◌, Bool, true, false, Option, Some, None, refl, sym, ap, ◌∙◌, subst, inl, inr, cond, eqb, set}
use Rattle.std.specs.Prelude.{slice_get, ◌⊎◌, option_map, Result, Ok, Err, OnOk, OnErr}
use Rattle.std.specs.Map.{set_value}
use Rattle.indexmap.specs.IndexMap.{insert_entry}
use Rattle.maildrop.specs.CommandId.{CommandId}
use Rattle.maildrop.specs.Ticket.{Ticket}
use Rattle.maildrop.specs.declared.op.Op.{Op}
use Rattle.maildrop.specs.declared.outcome.Outcome.{Outcome}
use Rattle.apop.specs.Stamp.{Stamp}
use Rattle.pop3_wire.specs.declared.line.Line.{Line}
use Rattle.session.specs.Session.{by_line, by_answer, lock_due, lock_got, free_of}
use Rattle.session.specs.declared.state.State.{State}
use Rattle.session.specs.declared.state.Step.{Step}
use Rattle.session.specs.declared.state.Step.TheVariants.{Say, Ask, SayAndClose}
use Rattle.session.specs.declared.state.Turn.{Turn}
use Rattle.node.specs.Nodes.{answered, logged}
use Rattle.node.specs.Replay.{is_crash, sends_of}
use Rattle.node.specs.declared.input.Input.{Input}
use Rattle.node.specs.declared.input.Input.TheVariants as input
use Rattle.node.specs.declared.log.NodeLog.{NodeLog}
use Rattle.runs.specs.Clients.{Standing, Hears, Waits, Failed, Disconnected, Over, Client, new_client, standing_as, disconnected, told, with_line, asking, client_of, with_client, all_without_node}
use Rattle.world.specs.Connections.{client_in, shown, clients_in, connection_of, service_of, IsFit, AreFit}
use Rattle.world.specs.Hosts.{Hosts, network_of, IsArrivalCut}
use Rattle.runs.specs.Interrupted.{IsItsCrashed, IsAddresseeCrashed, IsInterrupted}
use Rattle.runs.specs.Messages.{Network, log_of, is_up, newly_sent, taken_by, given_input, with_arrival, message_arrives}
use Rattle.world.specs.Served.{IsIfUp, IsIdle, IsCrash, IsLost, IsAsking, IsStep, IsLineAt, IsLine, IsCutAt, IsLineCut, IsAnswer, IsCollectAt, IsAnswerLost, IsCollectCutAt, IsFreed, IsHangupAt, IsHangup, IsHangupCut}
use Rattle.runs.specs.Services.{Service, Occurs, next_id, keeps, submits_for, if_up, if_served, connects, after_line, hears_line, after_answer, by_turn, takes_answer, collects, gives_back, hangs_up, loses_answer, is_lost, crashes, occurs, happens}
use Rattle.runs.specs.Worlds.{answer_at}
use Rattle.runs.specs.declared.config.Config.{Config}
use Rattle.world.specs.declared.connection.Connection.{Connection}
use Rattle.runs.specs.declared.event.Event.TheVariants as event
use Rattle.runs.specs.declared.sent.Sent.{Sent}
use Rattle.world.proofs.HostList.{the_network}
use Rattle.world.proofs.Hosting.{crashed_down}
use Rattle.runs.proofs.Logs.{log_same}
use Rattle.world.proofs.Shown.{AreAsUp, shown_up, client_shown, set_shown, with_same, shown_alike, takes_as_up, crash_shown}

module _ {A : Type 0} where
  abbrev the_service : Network A → List (ℕ × Client A) → Service A
  the_service network clients = record { network = network; clients = clients }

  stranded_twice : (s : Standing A) → disconnected (disconnected s) ≡ disconnected s
  stranded_twice (Hears state) = refl
  stranded_twice (Waits state id) = refl
  stranded_twice (Failed lock) = refl
  stranded_twice Disconnected = refl
  stranded_twice Over = refl

  -- the log of a node that is up
  pub up_log : (o : Option (NodeLog A)) → is_up o ≡ true → (log : NodeLog A) × (o ≡ Some log)
  up_log None up = absurd (cc)
  up_log (Some log) up = (log, refl)

  module _ (hosts later_hosts : Hosts A) (es : List (ℕ × Connection A)) where
    abbrev pub n : Network A
    n = network_of hosts

    abbrev pub new : Network A
    new = network_of later_hosts

    abbrev pub w : Service A
    w = service_of hosts es

    -- nodes go on
    pub nodes_on : (m : ℕ) (i : Input A) → is_crash i ≡ false → network_of later_hosts ≡ given_input (network_of hosts) m i → service_of later_hosts es ≡ record (service_of hosts es) { network = given_input (network_of hosts) m i }
    nodes_on m i quiet e =
        ap (λ (x : Network A). the_service x (clients_in x.logs es)) e
        ∙ ap (the_service (given_input n m i)) (shown_alike n.logs (given_input n m i).logs (takes_as_up n m i quiet) es)

    crash_takes : (m : ℕ) (log : NodeLog A) → log_of m n.logs ≡ Some log → is_up (Some log) ≡ true → given_input n m input.Crash ≡ the_network (set n.logs (m - 1) (logged log input.Crash)) (n.sent ++ newly_sent (sends_of log input.Crash))
    crash_takes m log e up = rw (e, up) refl

    -- a node crashes
    pub nodes_crash : (cfg : Config A) (m : ℕ) → network_of later_hosts ≡ given_input (network_of hosts) m input.Crash → service_of later_hosts es ≡ happens cfg (service_of hosts es) (Occurs (event.Crash m))
    nodes_crash cfg m e =
        ap (λ (x : Network A). the_service x (clients_in x.logs es)) e ∙ go (log_of m n.logs) refl
      where
        by : (log : NodeLog A) → log_of m n.logs ≡ Some log → (t : Bool) → is_up (Some log) ≡ t →
            the_service (cond t (the_network (set n.logs (m - 1) (logged log input.Crash)) (n.sent ++ newly_sent (sends_of log input.Crash))) n)
            (clients_in (cond t (the_network (set n.logs (m - 1) (logged log input.Crash)) (n.sent ++ newly_sent (sends_of log input.Crash))) n).logs es)
            ≡ cond t (the_service (given_input n m input.Crash) (all_without_node m (clients_in n.logs es))) w
        by log q true up =
            ap (the_service _) (crash_shown n.logs m log q up es) ∙ ap (λ x. the_service x (all_without_node m (clients_in n.logs es))) (sym (crash_takes m log q up))
        by log q false up = refl

        go : (o : Option (NodeLog A)) → log_of m n.logs ≡ o → the_service (taken_by n m input.Crash o) (clients_in (taken_by n m input.Crash o).logs es) ≡ if_up w o (crashes w m)
        go None q = refl
        go (Some log) q = by log q (is_up (Some log)) refl

    module _ (session : ℕ) (c later : Connection A) (found : connection_of session es ≡ Some c) where
      abbrev pub es2 : List (ℕ × Connection A)
      es2 = set_value (λ s. eqb session s) es later

      its_client : client_of session w.clients ≡ Some (shown n.logs (client_in c))
      its_client = client_shown n.logs session es ∙ ap (option_map (λ x. shown n.logs (client_in x))) found

      -- nothing happens
      pub idles : IsIdle (network_of hosts) (network_of later_hosts) (client_in c) (client_in later) → service_of later_hosts (set_value (λ s. eqb session s) es later) ≡ service_of hosts es
      idles h =
          ap (λ (x : Network A). the_service x (clients_in x.logs es2)) h.0
          ∙ ap (the_service n) (set_shown n.logs session es c later found ∙ ap (λ x. with_client session (shown n.logs x) (clients_in n.logs es)) h.1 ∙ with_same session (shown n.logs (client_in c)) (clients_in n.logs es) its_client)

      -- the client is another
      pub is_kept : (x : Client A) → new ≡ n → client_in later ≡ x → is_up (log_of x.node n.logs) ≡ true → service_of later_hosts es2 ≡ keeps w session x
      is_kept x e same up =
          ap (λ (y : Network A). the_service y (clients_in y.logs es2)) e
          ∙ ap (the_service n) (set_shown n.logs session es c later found ∙ ap (λ y. with_client session y (clients_in n.logs es)) (ap (shown n.logs) same ∙ shown_up n.logs x up))

      -- and its node is given an operation
      pub is_submitted : (x : Client A) (user : List ℕ) (op : Op A) → new ≡ given_input n x.node (input.Submit user op) → client_in later ≡ x → is_up (log_of x.node n.logs) ≡ true → service_of later_hosts es2 ≡ submits_for w session x user op
      is_submitted x user op e same up =
          let i : Input A = input.Submit user op in
          ap (λ (y : Network A). the_service y (clients_in y.logs es2)) e
          ∙ ap (the_service (given_input n x.node i)) (shown_alike n.logs (given_input n x.node i).logs (takes_as_up n x.node i refl) es2
          ∙ set_shown n.logs session es c later found ∙ ap (λ y. with_client session y (clients_in n.logs es)) (ap (shown n.logs) same ∙ shown_up n.logs x up))

      -- its node crashes
      shown_twice : (logs : List (NodeLog A)) → client_in later ≡ standing_as (client_in c) (disconnected (client_in c).standing) → is_up (log_of c.node logs) ≡ false → shown logs (client_in later) ≡ shown logs (client_in c)
      shown_twice logs same down = ap (shown logs) same ∙ rw (down) (ap (λ s. standing_as (client_in c) s) (stranded_twice (client_in c).standing))

      pub is_crashed : (cfg : Config A) → is_up (log_of c.node n.logs) ≡ true → IsCrash n new (client_in c) (client_in later) → service_of later_hosts es2 ≡ happens cfg w (Occurs (event.Crash c.node))
      is_crashed cfg up h =
          let found_log = up_log (log_of c.node n.logs) up in
          let log : NodeLog A = found_log.0 in
          let log_up : is_up (Some log) ≡ true = ap is_up (sym found_log.1) ∙ up in
          let logs : List (NodeLog A) = set n.logs (c.node - 1) (logged log input.Crash) in
          let after : new.logs ≡ logs = ap (λ (x : Network A). x.logs) (h.0 ∙ crash_takes c.node log found_log.1 log_up) in
          let down : is_up (log_of c.node new.logs) ≡ false = ap (λ ls. is_up (log_of c.node ls)) after ∙ ap is_up (log_same n.logs c.node log (logged log input.Crash) found_log.1) ∙ crashed_down log in
          ap (the_service new)
          (set_shown new.logs session es c later found
          ∙ ap (λ y. with_client session y (clients_in new.logs es)) (shown_twice new.logs h.1 down)
          ∙ with_same session (shown new.logs (client_in c)) (clients_in new.logs es) (client_shown new.logs session es ∙ ap (option_map (λ x. shown new.logs (client_in x))) found))
          ∙ nodes_crash cfg c.node h.0

      -- what is done if the client's node is up
      shown_node : (t : Bool) (x : Client A) → (cond t x (standing_as x (disconnected x.standing))).node ≡ x.node
      shown_node true x = refl
      shown_node false x = refl

      pub served : (act : Client A → NodeLog A → Service A) (log : NodeLog A) → log_of c.node n.logs ≡ Some log → is_up (Some log) ≡ true → if_served w (client_of session w.clients) act ≡ act (client_in c) log
      served act log e up =
          ap (λ o. if_served w o act) (its_client ∙ ap Some (shown_up n.logs (client_in c) (ap is_up e ∙ up))) ∙ ap (λ o. if_up w o (act (client_in c))) e ∙ rw (up) refl

      pub unserved : (act : Client A → NodeLog A → Service A) → is_up (log_of c.node n.logs) ≡ false → if_served w (client_of session w.clients) act ≡ w
      unserved act down =
          ap (λ o. if_served w o act) its_client
          ∙ ap (λ m. if_up w (log_of m n.logs) (act (shown n.logs (client_in c)))) (shown_node (is_up (log_of c.node n.logs)) (client_in c))
          ∙ go (log_of c.node n.logs) down
        where
          go : (o : Option (NodeLog A)) → is_up o ≡ false → if_up w o (act (shown n.logs (client_in c))) ≡ w
          go None q = refl
          go (Some log) q = rw (q) refl

      -- A line

      module _ (log : NodeLog A) (at : log_of c.node n.logs ≡ Some log) (up : is_up (Some log) ≡ true) where
        its_up : is_up (log_of c.node n.logs) ≡ true
        its_up = ap is_up at ∙ up

        step_done : (line : Line) (state : State A) (step : Step A) → IsStep state step n new (with_line (client_in c) line) (client_in later) → service_of later_hosts es2 ≡ after_line w session (with_line (client_in c) line) log state step
        step_done line state (Say bytes) h = is_kept (told (with_line (client_in c) line) bytes (Hears state)) h.0 h.1 its_up
        step_done line state (SayAndClose bytes) h = is_kept (told (with_line (client_in c) line) bytes Over) h.0 h.1 its_up
        step_done line state (Ask user op) h =
            let same : IsAsking (with_line (client_in c) line) (client_in later) state user (Some log) = subst (λ o. IsAsking (with_line (client_in c) line) (client_in later) state user o) at h.1 in
            is_submitted (asking (with_line (client_in c) line) ((next_id log user).ticket) (Waits state (next_id log user))) user op h.0 same its_up

        line_done : (cfg : Config A) (line : Line) (s : Standing A) → IsLineAt cfg.accounts line s n new (client_in c) (client_in later) → service_of later_hosts es2 ≡ hears_line cfg w session line (client_in c) log s
        line_done cfg line (Hears state) h = step_done line (by_line cfg.accounts c.session.stamp state line).state (by_line cfg.accounts c.session.stamp state line).step h
        line_done cfg line (Waits state id) h = idles h
        line_done cfg line (Failed lock) h = idles h
        line_done cfg line Disconnected h = idles h
        line_done cfg line Over h = idles h

        freed_done : (free : Option (List ℕ × Op A)) → IsFreed free n new (client_in c) (client_in later) → service_of later_hosts es2 ≡ gives_back w session (standing_as (client_in c) Over) free
        freed_done None h = is_kept (standing_as (client_in c) Over) h.0 h.1 its_up
        freed_done (Some free) h = is_submitted (standing_as (client_in c) Over) free.0 free.1 h.0 h.1 its_up

        hangup_done : (s : Standing A) → IsHangupAt s n new (client_in c) (client_in later) → service_of later_hosts es2 ≡ hangs_up w session (client_in c) log s
        hangup_done (Hears state) h = freed_done (free_of (lock_due state)) h
        hangup_done (Failed lock) h = freed_done (free_of lock) h
        hangup_done (Waits state id) h = idles h
        hangup_done Disconnected h = idles h
        hangup_done Over h = idles h

        turn_node : (turn : Option (Turn A)) → (by_turn (client_in c) turn).node ≡ c.node
        turn_node None = refl
        turn_node (Some turn) =
            go turn.step
          where
            go : (step : Step A) → (after_answer (client_in c) turn.state step).node ≡ c.node
            go (Say bytes) = refl
            go (SayAndClose bytes) = refl
            go (Ask user op) = refl

        answer_done : new ≡ n → (state : State A) (ticket : Ticket) (o : Option (Outcome A)) → IsAnswer state ticket o (client_in c) (client_in later) → service_of later_hosts es2 ≡ takes_answer w session (client_in c) state ticket o
        answer_done e state ticket None h = idles (e, h)
        answer_done e state ticket (Some outcome) h =
            is_kept (by_turn (client_in c) (by_answer state ticket outcome)) e h (ap (λ m. is_up (log_of m n.logs)) (turn_node (by_answer state ticket outcome)) ∙ its_up)

        its_answer : (id : CommandId) → answer_at (log_of c.node n.logs) id ≡ answered log id
        its_answer id = ap (λ o. answer_at o id) at ∙ rw (up) refl

        collect_done : new ≡ n → (s : Standing A) → IsCollectAt s n (client_in c) (client_in later) → service_of later_hosts es2 ≡ collects w session (client_in c) log s
        collect_done e (Waits state id) h = answer_done e state id.ticket (answered log id) (subst (λ o. IsAnswer state id.ticket o (client_in c) (client_in later)) (its_answer id) h)
        collect_done e (Hears state) h = idles (e, h)
        collect_done e (Failed lock) h = idles (e, h)
        collect_done e Disconnected h = idles (e, h)
        collect_done e Over h = idles (e, h)

        lost_done : (state : State A) → (client_in c).standing ≡ Hears state → IsLost (lock_due state) n new (client_in c) (client_in later) → service_of later_hosts es2 ≡ is_lost w session (client_in c) log (client_in c).standing
        lost_done state e h = is_kept (standing_as (client_in c) (Failed (lock_due state))) h.0 h.1 its_up ∙ ap (is_lost w session (client_in c) log) (sym e)

        answer_lost : new ≡ n → (state : State A) (ticket : Ticket) (o : Option (Outcome A)) → IsAnswerLost state ticket o (client_in c) (client_in later) → service_of later_hosts es2 ≡ loses_answer w session (client_in c) state ticket o
        answer_lost e state ticket None h = absurd h
        answer_lost e state ticket (Some outcome) h = is_kept (standing_as (client_in c) (Failed (lock_got state ticket outcome))) e h its_up

        collect_lost : new ≡ n → (s : Standing A) → IsCollectCutAt s n (client_in c) (client_in later) → service_of later_hosts es2 ≡ is_lost w session (client_in c) log s
        collect_lost e (Waits state id) h = answer_lost e state id.ticket (answered log id) (subst (λ o. IsAnswerLost state id.ticket o (client_in c) (client_in later)) (its_answer id) h)
        collect_lost e (Hears state) h = absurd h
        collect_lost e (Failed lock) h = absurd h
        collect_lost e Disconnected h = absurd h
        collect_lost e Over h = absurd h

      -- By whether the node is up

      pub by_up : {P Q : Type 0} (goal : Type 0) → IsIfUp (is_up (log_of c.node n.logs)) P Q → ((log : NodeLog A) → log_of c.node n.logs ≡ Some log → is_up (Some log) ≡ true → P → goal) → (is_up (log_of c.node n.logs) ≡ false → Q → goal) → goal
      by_up {P = P} {Q = Q} goal h goes idle =
          go (is_up (log_of c.node n.logs)) refl h
        where
          go : (t : Bool) → is_up (log_of c.node n.logs) ≡ t → IsIfUp t P Q → goal
          go true q p = let x = up_log (log_of c.node n.logs) q in goes x.0 x.1 (ap is_up (sym x.1) ∙ q) p
          go false q p = idle q p

      pub line_occurs : (cfg : Config A) (line : Line) → IsLine cfg.accounts line n new (client_in c) (client_in later) → service_of later_hosts es2 ≡ occurs cfg w (event.Line session line)
      line_occurs cfg line h =
          by_up (service_of later_hosts es2 ≡ occurs cfg w (event.Line session line)) h
          (λ log at up p. line_done log at up cfg line (client_in c).standing p ∙ sym (served (λ x l. hears_line cfg w session line x l x.standing) log at up))
          (λ down q. idles q ∙ sym (unserved (λ x l. hears_line cfg w session line x l x.standing) down))

      pub hangup_occurs : (cfg : Config A) → IsHangup n new (client_in c) (client_in later) → service_of later_hosts es2 ≡ occurs cfg w (event.Hangup session)
      hangup_occurs cfg h =
          by_up (service_of later_hosts es2 ≡ occurs cfg w (event.Hangup session)) h
          (λ log at up p. hangup_done log at up (client_in c).standing p ∙ sym (served (λ x l. hangs_up w session x l x.standing) log at up))
          (λ down q. idles q ∙ sym (unserved (λ x l. hangs_up w session x l x.standing) down))

      no_answer : is_up (log_of c.node n.logs) ≡ false → (s : Standing A) → IsCollectAt s n (client_in c) (client_in later) → client_in later ≡ client_in c
      no_answer down (Waits state id) h =
          subst (λ o. IsAnswer state id.ticket o (client_in c) (client_in later)) (go (log_of c.node n.logs) down) h
        where
          go : (o : Option (NodeLog A)) → is_up o ≡ false → answer_at o id ≡ None
          go None q = refl
          go (Some log) q = rw (q) refl
      no_answer down (Hears state) h = h
      no_answer down (Failed lock) h = h
      no_answer down Disconnected h = h
      no_answer down Over h = h

      pub collect_occurs : (cfg : Config A) → new ≡ n → IsCollectAt (client_in c).standing n (client_in c) (client_in later) → service_of later_hosts es2 ≡ occurs cfg w (event.Collect session)
      collect_occurs cfg e h =
          go (is_up (log_of c.node n.logs)) refl
        where
          go : (t : Bool) → is_up (log_of c.node n.logs) ≡ t → service_of later_hosts es2 ≡ occurs cfg w (event.Collect session)
          go true q =
              let x = up_log (log_of c.node n.logs) q in
              let up : is_up (Some x.0) ≡ true = ap is_up (sym x.1) ∙ q in
              collect_done x.0 x.1 up e (client_in c).standing h ∙ sym (served (λ y l. collects w session y l y.standing) x.0 x.1 up)
          go false q = idles (e, no_answer q (client_in c).standing h) ∙ sym (unserved (λ y l. collects w session y l y.standing) q)

      -- Where there was no memory

      its_crash : (cfg : Config A) → is_up (log_of c.node n.logs) ≡ true → IsCrash n new (client_in c) (client_in later) → IsItsCrashed cfg (client_of session w.clients) w (service_of later_hosts es2)
      its_crash cfg up h =
          subst (λ o. IsItsCrashed cfg o w (service_of later_hosts es2)) (sym (its_client ∙ ap Some (shown_up n.logs (client_in c) up))) (is_crashed cfg up h)

      pub hangup_interrupted : (cfg : Config A) → IsHangupCut n new (client_in c) (client_in later) → IsInterrupted cfg (event.Hangup session) w (service_of later_hosts es2)
      hangup_interrupted cfg h = its_crash cfg h.0 h.1

      pub line_interrupted : (cfg : Config A) (line : Line) → IsLineCut n new (client_in c) (client_in later) → IsInterrupted cfg (event.Line session line) w (service_of later_hosts es2)
      line_interrupted cfg line h =
          go (client_in c).standing refl h.1
        where
          go : (s : Standing A) → (client_in c).standing ≡ s → IsCutAt s n new (client_in c) (client_in later) → IsInterrupted cfg (event.Line session line) w (service_of later_hosts es2)
          go (Hears state) e (inl lost) =
              let x = up_log (log_of c.node n.logs) h.0 in
              let up : is_up (Some x.0) ≡ true = ap is_up (sym x.1) ∙ h.0 in
              inl (lost_done x.0 x.1 up state e lost ∙ sym (served (λ y l. is_lost w session y l y.standing) x.0 x.1 up))
          go (Hears state) e (inr crash) = inr (its_crash cfg h.0 crash)
          go (Waits state id) e p = absurd p
          go (Failed lock) e p = absurd p
          go Disconnected e p = absurd p
          go Over e p = absurd p

      has_up : (s : Standing A) → IsCollectCutAt s n (client_in c) (client_in later) → (t : Bool) → is_up (log_of c.node n.logs) ≡ t → is_up (log_of c.node n.logs) ≡ true
      has_up s h true q = q
      has_up (Waits state id) h false q =
          absurd (subst (λ o. IsAnswerLost state id.ticket o (client_in c) (client_in later)) (go (log_of c.node n.logs) q) h)
        where
          go : (o : Option (NodeLog A)) → is_up o ≡ false → answer_at o id ≡ None
          go None q = refl
          go (Some log) q = rw (q) refl
      has_up (Hears state) h false q = absurd h
      has_up (Failed lock) h false q = absurd h
      has_up Disconnected h false q = absurd h
      has_up Over h false q = absurd h

      pub collect_interrupted : (cfg : Config A) → new ≡ n → IsCollectCutAt (client_in c).standing n (client_in c) (client_in later) → IsInterrupted cfg (event.Collect session) w (service_of later_hosts es2)
      collect_interrupted cfg e h =
          let its = has_up (client_in c).standing h (is_up (log_of c.node n.logs)) refl in
          let x = up_log (log_of c.node n.logs) its in
          let up : is_up (Some x.0) ≡ true = ap is_up (sym x.1) ∙ its in
          collect_lost x.0 x.1 up e (client_in c).standing h ∙ sym (served (λ y l. is_lost w session y l y.standing) x.0 x.1 up)

    -- a session that isn't there
    pub no_client : (session : ℕ) → connection_of session es ≡ None → client_of session (clients_in n.logs es) ≡ None
    no_client session none = client_shown n.logs session es ∙ ap (option_map (λ x. shown n.logs (client_in x))) none

  set_got : (session s : ℕ) (later x : Connection A) (es : List (ℕ × Connection A)) → connection_of s (set_value (λ k. eqb session k) es later) ≡ Some x → (later ≡ x) ⊎ (connection_of s es ≡ Some x)
  set_got session s later x [] q = inr q
  set_got session s later x (y ∷ es) q =
      go (eqb session y.0) q (set_got session s later x es)
    where
      here : (t : Bool) → cond t (Some later) (connection_of s es) ≡ Some x → (later ≡ x) ⊎ (cond t (Some y.1) (connection_of s es) ≡ Some x)
      here true r = inl (cc)
      here false r = inr r

      there : (t : Bool) → cond t (Some y.1) (connection_of s (set_value (λ k. eqb session k) es later)) ≡ Some x → (connection_of s (set_value (λ k. eqb session k) es later) ≡ Some x → (later ≡ x) ⊎ (connection_of s es ≡ Some x))
          → (later ≡ x) ⊎ (cond t (Some y.1) (connection_of s es) ≡ Some x)
      there true r ih = inr r
      there false r ih = ih r

      go : (t : Bool) → connection_of s (cond t ((y.0, later) ∷ es) (y ∷ set_value (λ k. eqb session k) es later)) ≡ Some x
          → (connection_of s (set_value (λ k. eqb session k) es later) ≡ Some x → (later ≡ x) ⊎ (connection_of s es ≡ Some x)) → (later ≡ x) ⊎ (connection_of s (y ∷ es) ≡ Some x)
      go true r ih = here (eqb s y.0) r
      go false r ih = there (eqb s y.0) r ih

  -- what holds of each connection
  pub fit_set : (session : ℕ) (es : List (ℕ × Connection A)) (later : Connection A) → AreFit es → IsFit later → AreFit (set_value (λ s. eqb session s) es later)
  fit_set session es later fit its s x e =
      elim (set_got session s later x es e) [
        | inl p ↦ subst IsFit p its
        | inr q ↦ fit s x q
      ]

  -- a session that isn't there
  module _ (hosts : Hosts A) (es : List (ℕ × Connection A)) (session : ℕ) (none : connection_of session es ≡ None) (cfg : Config A) where
    nobody : client_of session (clients_in (network_of hosts).logs es) ≡ None
    nobody = client_shown (network_of hosts).logs session es ∙ ap (option_map (λ x. shown (network_of hosts).logs (client_in x))) none

    none_served : (act : Client A → NodeLog A → Service A) → service_of hosts es ≡ if_served (service_of hosts es) (client_of session (service_of hosts es).clients) act
    none_served act = ap (λ o. if_served (service_of hosts es) o act) (sym nobody)

    pub line_absent : (line : Line) → service_of hosts es ≡ occurs cfg (service_of hosts es) (event.Line session line)
    line_absent line = none_served (λ c log. hears_line cfg (service_of hosts es) session line c log c.standing)

    pub hangup_absent : service_of hosts es ≡ occurs cfg (service_of hosts es) (event.Hangup session)
    hangup_absent = none_served (λ c log. hangs_up (service_of hosts es) session c log c.standing)

    pub collect_absent : service_of hosts es ≡ occurs cfg (service_of hosts es) (event.Collect session)
    collect_absent = none_served (λ c log. collects (service_of hosts es) session c log c.standing)

    insert_shown : (logs : List (NodeLog A)) (c : Connection A) (xs : List (ℕ × Connection A)) → clients_in logs (insert_entry (λ s t. eqb s t) xs session c) ≡ with_client session (shown logs (client_in c)) (clients_in logs xs)
    insert_shown logs c [] = refl
    insert_shown logs c (x ∷ xs) =
        go (eqb session x.0) (insert_shown logs c xs)
      where
        go : (t : Bool) → clients_in logs (insert_entry (λ s t. eqb s t) xs session c) ≡ with_client session (shown logs (client_in c)) (clients_in logs xs)
            → clients_in logs (cond t ((x.0, c) ∷ xs) (x ∷ insert_entry (λ s t. eqb s t) xs session c)) ≡ cond t ((x.0, shown logs (client_in c)) ∷ clients_in logs xs) ((x.0, shown logs (client_in x.1)) ∷ with_client session (shown logs (client_in c)) (clients_in logs xs))
        go true ih = refl
        go false ih = ap (λ cs. (x.0, shown logs (client_in x.1)) ∷ cs) ih

    -- a new client
    pub connect_occurs : (node : ℕ) (stamp : Stamp) (c : Connection A) → is_up (log_of node (network_of hosts).logs) ≡ true → client_in c ≡ new_client node stamp
        → service_of hosts (insert_entry (λ s t. eqb s t) es session c) ≡ occurs cfg (service_of hosts es) (event.Connect session node stamp)
    connect_occurs node stamp c up same =
        let logs : List (NodeLog A) = (network_of hosts).logs in
        let x = up_log (log_of node logs) up in
        let its_up : is_up (Some x.0) ≡ true = ap is_up (sym x.1) ∙ up in
        ap (the_service (network_of hosts)) (insert_shown logs c es ∙ ap (λ y. with_client session y (clients_in logs es)) (ap (shown logs) same ∙ shown_up logs (new_client node stamp) up))
        ∙ sym (ap (λ o. if_up (service_of hosts es) o (λ log. connects (service_of hosts es) session (new_client node stamp) (client_of session (clients_in logs es)))) x.1 ∙ rw (its_up) (ap (connects (service_of hosts es) session (new_client node stamp)) nobody))

  -- a client that can't connect
  pub connect_down : (hosts : Hosts A) (es : List (ℕ × Connection A)) (session node : ℕ) (stamp : Stamp) (cfg : Config A) → is_up (log_of node (network_of hosts).logs) ≡ false → service_of hosts es ≡ occurs cfg (service_of hosts es) (event.Connect session node stamp)
  connect_down hosts es session node stamp cfg down =
      go (log_of node (network_of hosts).logs) down
    where
      go : (o : Option (NodeLog A)) → is_up o ≡ false → service_of hosts es ≡ if_up (service_of hosts es) o (λ log. connects (service_of hosts es) session (new_client node stamp) (client_of session (service_of hosts es).clients))
      go None q = refl
      go (Some log) q = rw (q) refl

  pub connect_known : (hosts : Hosts A) (es : List (ℕ × Connection A)) (session node : ℕ) (stamp : Stamp) (cfg : Config A) (c : Connection A) → connection_of session es ≡ Some c
      → service_of hosts es ≡ occurs cfg (service_of hosts es) (event.Connect session node stamp)
  connect_known hosts es session node stamp cfg c found =
      go (log_of node (network_of hosts).logs)
    where
      known : client_of session (clients_in (network_of hosts).logs es) ≡ Some (shown (network_of hosts).logs (client_in c))
      known = client_shown (network_of hosts).logs session es ∙ ap (option_map (λ x. shown (network_of hosts).logs (client_in x))) found

      by : (t : Bool) → service_of hosts es ≡ cond t (connects (service_of hosts es) session (new_client node stamp) (client_of session (service_of hosts es).clients)) (service_of hosts es)
      by true = sym (ap (connects (service_of hosts es) session (new_client node stamp)) known)
      by false = refl

      go : (o : Option (NodeLog A)) → service_of hosts es ≡ if_up (service_of hosts es) o (λ log. connects (service_of hosts es) session (new_client node stamp) (client_of session (service_of hosts es).clients))
      go None = refl
      go (Some log) = by (is_up (Some log))

  insert_got : (session s : ℕ) (x c : Connection A) (xs : List (ℕ × Connection A)) → connection_of s (insert_entry (λ k t. eqb k t) xs session c) ≡ Some x → (c ≡ x) ⊎ (connection_of s xs ≡ Some x)
  insert_got session s x c [] q =
      go (eqb s session) q
    where
      go : (t : Bool) → cond t (Some c) None ≡ Some x → (c ≡ x) ⊎ (connection_of s [] ≡ Some x)
      go true r = inl (cc)
      go false r = absurd (cc)
  insert_got session s x c (y ∷ xs) q =
      go (eqb session y.0) q (insert_got session s x c xs)
    where
      here : (t : Bool) → cond t (Some c) (connection_of s xs) ≡ Some x → (c ≡ x) ⊎ (cond t (Some y.1) (connection_of s xs) ≡ Some x)
      here true r = inl (cc)
      here false r = inr r

      there : (t : Bool) → cond t (Some y.1) (connection_of s (insert_entry (λ k t. eqb k t) xs session c)) ≡ Some x → (connection_of s (insert_entry (λ k t. eqb k t) xs session c) ≡ Some x → (c ≡ x) ⊎ (connection_of s xs ≡ Some x))
          → (c ≡ x) ⊎ (cond t (Some y.1) (connection_of s xs) ≡ Some x)
      there true r ih = inr r
      there false r ih = ih r

      go : (t : Bool) → connection_of s (cond t ((y.0, c) ∷ xs) (y ∷ insert_entry (λ k t. eqb k t) xs session c)) ≡ Some x
          → (connection_of s (insert_entry (λ k t. eqb k t) xs session c) ≡ Some x → (c ≡ x) ⊎ (connection_of s xs ≡ Some x)) → (c ≡ x) ⊎ (connection_of s (y ∷ xs) ≡ Some x)
      go true r ih = here (eqb s y.0) r
      go false r ih = there (eqb s y.0) r ih

  pub fit_insert : (session : ℕ) (es : List (ℕ × Connection A)) (c : Connection A) → AreFit es → IsFit c → AreFit (insert_entry (λ s t. eqb s t) es session c)
  fit_insert session es c fit its s x e =
      elim (insert_got session s x c es e) [
        | inl p ↦ subst IsFit p its
        | inr q ↦ fit s x q
      ]

  pub fit_greeted : {X E : Type 0} (r : Result X E) (old later : List (ℕ × Connection A)) (session : ℕ) (client : Client A) → connection_of session old ≡ None → AreFit old
      → OnOk r ((c : Connection A) × (client_in c ≡ client) × IsFit c × (later ≡ insert_entry (λ s t. eqb s t) old session c)) → OnErr r (later ≡ old) → AreFit later
  fit_greeted (Ok x) old later session client none fit h same = subst AreFit (sym h.3) (fit_insert session old h.0 fit h.2)
  fit_greeted (Err e) old later session client none fit h same = subst AreFit (sym same) fit

  -- a message arrives
  arrives_as_up : (w : Network A) (which : ℕ) (o : Option (Sent A)) → AreAsUp w.logs (message_arrives w which o).logs
  arrives_as_up w which None m = refl
  arrives_as_up w which (Some s) m =
      go (is_up (log_of s.envelope.to w.logs))
    where
      go : (t : Bool) → is_up (log_of m (cond t (given_input (record { logs = w.logs; sent = with_arrival which w.sent }) s.envelope.to (input.Arrive s.envelope)) w).logs) ≡ is_up (log_of m w.logs)
      go true = takes_as_up (record { logs = w.logs; sent = with_arrival which w.sent }) s.envelope.to (input.Arrive s.envelope) refl m
      go false = refl

  pub nodes_arrive : (hosts later : Hosts A) (es : List (ℕ × Connection A)) (cfg : Config A) (which : ℕ) → network_of later ≡ message_arrives (network_of hosts) which (slice_get hosts.sent which)
      → service_of later es ≡ occurs cfg (service_of hosts es) (event.Arrive which)
  nodes_arrive hosts later es cfg which e =
      let next : Network A = message_arrives (network_of hosts) which (slice_get hosts.sent which) in
      ap (λ (x : Network A). the_service x (clients_in x.logs es)) e
      ∙ ap (the_service next) (shown_alike (network_of hosts).logs next.logs (arrives_as_up (network_of hosts) which (slice_get hosts.sent which)) es)

  pub arrival_interrupted : (hosts later : Hosts A) (es : List (ℕ × Connection A)) (cfg : Config A) (which : ℕ) → IsArrivalCut (network_of hosts) (network_of later) (slice_get hosts.sent which)
      → IsInterrupted cfg (event.Arrive which) (service_of hosts es) (service_of later es)
  arrival_interrupted hosts later es cfg which h =
      go (slice_get hosts.sent which) h
    where
      go : (o : Option (Sent A)) → IsArrivalCut (network_of hosts) (network_of later) o → IsAddresseeCrashed cfg o (service_of hosts es) (service_of later es)
      go None p = absurd p
      go (Some s) p = nodes_crash hosts later es cfg s.envelope.to p
