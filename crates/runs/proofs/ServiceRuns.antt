-- The nodes of a service take part in a run of nodes.
use Rattle.std.proofs.Common.{◌≡◌, ℕ, List, [], ◌∷◌, ◌++◌, Bool, true, false, Option, Some, None, refl, sym, ap, ◌∙◌, subst, cond}
use Rattle.maildrop.specs.CommandId.{CommandId}
use Rattle.maildrop.specs.declared.op.Op.{Op}
use Rattle.maildrop.specs.declared.op.Op.TheVariants as op
use Rattle.maildrop.specs.declared.outcome.Outcome.{Outcome}
use Rattle.pop3_wire.specs.declared.line.Line.{Line}
use Rattle.session.specs.Alone.{outcome_of}
use Rattle.session.specs.Prefix.{IsPrefix}
use Rattle.session.specs.Session.{by_line, lock_due, free_of}
use Rattle.session.specs.declared.state.State.{State}
use Rattle.session.specs.declared.state.Step.{Step}
use Rattle.session.specs.declared.state.Step.TheVariants.{Say, Ask, SayAndClose}
use Rattle.node.specs.Nodes.{answered}
use Rattle.node.specs.declared.log.NodeLog.{NodeLog}
use Rattle.runs.specs.Clients.{Standing, Hears, Waits, Failed, Disconnected, Over, Client, client_of, with_line, standing_as}
use Rattle.runs.specs.Messages.{Network, NodeEvent, Submits, Arrives, Ticks, Campaigns, Crashes, after_node_events, log_of, is_up, network_of, new_network}
use Rattle.runs.specs.Messages as network
use Rattle.runs.specs.Projection.{decided, own_commands}
use Rattle.node.specs.Outcomes.{first_maildrop}
use Rattle.runs.specs.Runs.{order_of}
use Rattle.runs.specs.Services.{Service, Happening, Occurs, Lost, opening_of, if_up, if_served, connects, after_line, hears_line, takes_answer, collects, gives_back, hangs_up, loses_answer, is_lost, occurs, happens}
use Rattle.runs.specs.declared.config.Config.{Config}
use Rattle.runs.specs.declared.event.Event.{Event}
use Rattle.runs.specs.declared.event.Event.TheVariants as event
use Rattle.runs.proofs.OwnOutcomes.{own_outcome}
use Rattle.runs.proofs.Outcomes.{answer_own}
use Rattle.runs.proofs.Theorems.{order_prefix}

module _ {A : Type 0} where
  -- the nodes of the second service are where events lead those of the first
  abbrev pub Follows : Service A → Service A → Type 0
  Follows w later = (events : List (NodeEvent A)) × (later.network ≡ after_node_events w.network events)

  same : (w : Service A) → Follows w w
  same w = ([], refl)

  module _ (w : Service A) where
    up_follows : (log : Option (NodeLog A)) (act : NodeLog A → Service A) → ((log : NodeLog A) → Follows w (act log)) → Follows w (if_up w log act)
    up_follows None act follows = same w
    up_follows (Some log) act follows =
        go (is_up (Some log))
      where
        go : (t : Bool) → Follows w (cond t (act log) w)
        go true = follows log
        go false = same w

    served_follows : (c : Option (Client A)) (act : Client A → NodeLog A → Service A) → ((c : Client A) (log : NodeLog A) → Follows w (act c log)) → Follows w (if_served w c act)
    served_follows None act follows = same w
    served_follows (Some c) act follows = up_follows (log_of c.node w.network.logs) (act c) (follows c)

    connects_follows : (session : ℕ) (c : Client A) (known : Option (Client A)) → Follows w (connects w session c known)
    connects_follows session c None = ([], refl)
    connects_follows session c (Some known) = same w

    step_follows : (session : ℕ) (c : Client A) (log : NodeLog A) (state : State A) (step : Step A) → Follows w (after_line w session c log state step)
    step_follows session c log state (Say bytes) = ([], refl)
    step_follows session c log state (SayAndClose bytes) = ([], refl)
    step_follows session c log state (Ask user op) = (Submits c.node user op ∷ [], refl)

    line_follows : (cfg : Config A) (session : ℕ) (line : Line) (c : Client A) (log : NodeLog A) (standing : Standing A) → Follows w (hears_line cfg w session line c log standing)
    line_follows cfg session line c log (Hears state) =
        let turn = by_line cfg.accounts c.stamp state line in
        step_follows session (with_line c line) log turn.state turn.step
    line_follows cfg session line c log (Waits state id) = same w
    line_follows cfg session line c log (Failed lock) = same w
    line_follows cfg session line c log Disconnected = same w
    line_follows cfg session line c log Over = same w

    gives_follows : (session : ℕ) (c : Client A) (free : Option (List ℕ × Op A)) → Follows w (gives_back w session c free)
    gives_follows session c None = ([], refl)
    gives_follows session c (Some free) = (Submits c.node free.0 free.1 ∷ [], refl)

    hangup_follows : (session : ℕ) (c : Client A) (log : NodeLog A) (standing : Standing A) → Follows w (hangs_up w session c log standing)
    hangup_follows session c log (Hears state) = gives_follows session (standing_as c Over) (free_of (lock_due state))
    hangup_follows session c log (Failed lock) = gives_follows session (standing_as c Over) (free_of lock)
    hangup_follows session c log (Waits state id) = same w
    hangup_follows session c log Disconnected = same w
    hangup_follows session c log Over = same w

    collect_follows : (session : ℕ) (c : Client A) (log : NodeLog A) (standing : Standing A) → Follows w (collects w session c log standing)
    collect_follows session c log (Waits state id) =
        go (answered log id)
      where
        go : (o : Option (Outcome A)) → Follows w (takes_answer w session c state id.ticket o)
        go None = same w
        go (Some outcome) = ([], refl)
    collect_follows session c log (Hears state) = same w
    collect_follows session c log (Failed lock) = same w
    collect_follows session c log Disconnected = same w
    collect_follows session c log Over = same w

    lost_follows : (session : ℕ) (c : Client A) (log : NodeLog A) (standing : Standing A) → Follows w (is_lost w session c log standing)
    lost_follows session c log (Hears state) = ([], refl)
    lost_follows session c log (Waits state id) =
        go (answered log id)
      where
        go : (o : Option (Outcome A)) → Follows w (loses_answer w session c state id.ticket o)
        go None = same w
        go (Some outcome) = ([], refl)
    lost_follows session c log (Failed lock) = same w
    lost_follows session c log Disconnected = same w
    lost_follows session c log Over = same w

    occurs_follows : (cfg : Config A) (e : Event A) → Follows w (occurs cfg w e)
    occurs_follows cfg (event.Connect session node stamp) = up_follows (log_of node w.network.logs) _ (λ log. connects_follows session _ (client_of session w.clients))
    occurs_follows cfg (event.Line session line) = served_follows (client_of session w.clients) _ (λ c log. line_follows cfg session line c log c.standing)
    occurs_follows cfg (event.Hangup session) = served_follows (client_of session w.clients) _ (λ c log. hangup_follows session c log c.standing)
    occurs_follows cfg (event.Collect session) = served_follows (client_of session w.clients) _ (λ c log. collect_follows session c log c.standing)
    occurs_follows cfg (event.Mail node user text key) = (Submits node user (op.Mail text key) ∷ [], refl)
    occurs_follows cfg (event.Break node user) = (Submits node user op.Break ∷ [], refl)
    occurs_follows cfg (event.Arrive which) = (Arrives which ∷ [], refl)
    occurs_follows cfg (event.Tick node) = (Ticks node ∷ [], refl)
    occurs_follows cfg (event.Campaign node) = (Campaigns node ∷ [], refl)
    occurs_follows cfg (event.Crash node) = up_follows (log_of node w.network.logs) _ (λ log. (Crashes node ∷ [], refl))

    pub happens_follows : (cfg : Config A) (h : Happening A) → Follows w (happens cfg w h)
    happens_follows cfg (Occurs e) = occurs_follows cfg e
    happens_follows cfg (Lost session) = served_follows (client_of session w.clients) _ (λ c log. lost_follows session c log c.standing)

  happen_then : (w : Network A) (early late : List (NodeEvent A)) → after_node_events w (early ++ late) ≡ after_node_events (after_node_events w early) late
  happen_then w [] late = refl
  happen_then w (e ∷ early) late = happen_then (network.after_node_event w e) early late

  -- the nodes of the service are those of a run of nodes
  abbrev pub AreOfRun : Config A → Service A → Type 0
  AreOfRun cfg w = (events : List (NodeEvent A)) × (w.network ≡ network_of (opening_of cfg) events)

  pub next_of_run : (cfg : Config A) (w : Service A) (h : Happening A) → AreOfRun cfg w → AreOfRun cfg (happens cfg w h)
  next_of_run cfg w h run =
      let next = happens_follows w cfg h in (
        run.0 ++ next.0,
        next.1 ∙ ap (λ n. after_node_events n next.0) run.1 ∙ sym (happen_then (new_network (opening_of cfg)) run.0 next.0),
      )

  -- what was decided stays decided
  pub decided_grows : (cfg : Config A) (w : Service A) (h : Happening A) → AreOfRun cfg w → IsPrefix (decided cfg w) (decided cfg (happens cfg w h))
  unfolding next_of_run
  decided_grows cfg w h run =
      let first = opening_of cfg in
      let next = next_of_run cfg w h run in
      let grows : IsPrefix (order_of first run.0) (order_of first (run.0 ++ (happens_follows w cfg h).0)) = order_prefix first run.0 (happens_follows w cfg h).0 in
      subst (λ n. IsPrefix (decided cfg (record { network = n; clients = [] })) (decided cfg (happens cfg w h))) (sym run.1)
      (subst (λ n. IsPrefix (order_of first run.0) (decided cfg (record { network = n; clients = [] }))) (sym next.1) grows)

  -- each answer is the user's own
  pub answer_is_own : (cfg : Config A) (w : Service A) → AreOfRun cfg w → (node : ℕ) (log : NodeLog A) (id : CommandId) (o : Outcome A) → log_of node w.network.logs ≡ Some log → answered log id ≡ Some o →
      outcome_of (first_maildrop (opening_of cfg) id.user) id.ticket (own_commands cfg w id.user) ≡ Some o
  answer_is_own cfg w run node log id o at e =
      let first = opening_of cfg in
      subst (λ n. outcome_of (first_maildrop first id.user) id.ticket (own_commands cfg (record { network = n; clients = [] }) id.user) ≡ Some o) (sym run.1)
      (own_outcome first (order_of first run.0) id o (answer_own first run.0 node log id o (subst (λ n. log_of node n.logs ≡ Some log) run.1 at) e))
