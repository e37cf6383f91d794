-- What every run decides, and what its nodes perform of it.
use Rattle.std.proofs.Common.{◌≡◌, ℕ, ◌-◌, List, [], ◌∷◌, ◌++◌, length, Bool, true, false, Option, Some, None, refl, sym, ap, ◌∙◌, subst, inl, inr, ⊎_elim, cond, set, append_assoc, zero, suc}
use Rattle.std.specs.Prelude.{slice_get}
use Rattle.std.proofs.lemmas.List.{append-nil}
use Rattle.ballot.specs.Lists.{IsIn}
use Rattle.ballot.specs.declared.message.Message.TheVariants.{P2a, Decision}
use Rattle.ballot.specs.declared.message.Envelope.{Envelope}
use Rattle.ballot.proofs.Member.{in_either}
use Rattle.replica.specs.Replicas.{Rules, first_slots, has_identity, once}
use Rattle.replica.proofs.Parts.{in_slot}
use Rattle.ballot.specs.Slots.{at_slot}
use Rattle.maildrop.specs.declared.command.Command.{Command}
use Rattle.node.specs.Replay.{mail_rules, replayed, sends_of}
use Rattle.node.specs.Nodes.{logged}
use Rattle.node.specs.declared.input.Input.{Input}
use Rattle.node.specs.declared.input.Input.TheVariants.{Submit, Arrive, Tick, Campaign, Crash}
use Rattle.node.specs.declared.log.Opening.{Opening}
use Rattle.node.specs.declared.log.NodeLog.{NodeLog}
use Rattle.runs.specs.Chosen.{chosen, IsChosen}
use Rattle.session.specs.Prefix.{IsPrefix}
use Rattle.runs.specs.Decided.{first_gap, without_gap}
use Rattle.runs.specs.Messages.{Network, NodeEvent, Submits, Arrives, Ticks, Campaigns, Crashes, log_of, is_up, newly_sent, taken_by, given_input, with_arrival, message_arrives, after_node_event, after_node_events, new_network, network_of, envelopes, WasSubmitted}
use Rattle.runs.specs.declared.sent.Sent.{Sent}
use Rattle.runs.specs.Runs.{IsChosenIn, order_of}
use Rattle.runs.proofs.Chosen.{asked_sent, chosen_more}
use Rattle.runs.proofs.Invariant.{Roles}
use Rattle.runs.proofs.Agree.{agree}
use Rattle.runs.proofs.DecidedOrder.{listed_chosen, performed_first, order_grows}
use Rattle.runs.proofs.NodeSteps.{roles_of}
use Rattle.runs.proofs.Logs.{arrival_alike, envelopes_more}
use Rattle.runs.proofs.NodeRuns.{node_of, nodes_of, every_run}

-- what is in a list without repeated identities is in the list
in_once : {C I R M : Type 0} (rules : Rules C I R M) (before ps : List (ℕ × C)) (p : ℕ × C) → IsIn p (once rules before ps) → IsIn p ps
in_once rules before [] p h = h
in_once {C} rules before (q ∷ ps) p h =
    go (has_identity rules (rules.identity q.1) before) (in_once rules before ps p) (in_once rules (before ++ q ∷ []) ps p) h
  where
    go : (t : Bool) → (IsIn p (once rules before ps) → IsIn p ps) → (IsIn p (once rules (before ++ q ∷ []) ps) → IsIn p ps) →
        IsIn p (cond t (once rules before ps) (q ∷ once rules (before ++ q ∷ []) ps)) → IsIn p (q ∷ ps)
    go true a b k = inr (a k)
    go false a b k = ⊎_elim (λ e. inl e) (λ t. inr (b t)) k

-- and what stands in the first slots stands at its slot
in_first : {X : Type 0} (n : ℕ) (es : List (ℕ × X)) (p : ℕ × X) → IsIn p (first_slots n es) → at_slot p.0 es ≡ Some p.1
in_first zero es p h = absurd h
in_first {X} (suc n) es p h =
    ⊎_elim
    (λ before. in_first n es p before)
    (λ last. go (at_slot (suc n) es) refl last)
    (in_either p (first_slots n es) (in_slot (suc n) (at_slot (suc n) es)) h)
  where
    go : (o : Option X) → at_slot (suc n) es ≡ o → IsIn p (in_slot (suc n) o) → at_slot p.0 es ≡ Some p.1
    go None e k = absurd k
    go (Some x) e k = ⊎_elim (λ (q : (suc n, x) ≡ p). subst (λ (y : ℕ × X). at_slot y.0 es ≡ Some y.1) q e) (λ none. absurd none) k

module _ {A : Type 0} where
  -- what was sent stays sent
  abbrev Grows : Network A → Network A → Type 0
  Grows w later = (more : List (Envelope (Command A) A)) × (envelopes later ≡ envelopes w ++ more)

  stays : (w : Network A) → Grows w w
  stays w = ([], sym (append-nil (envelopes w)))

  takes_grows : (w : Network A) (n : ℕ) (i : Input A) → Grows w (given_input w n i)
  takes_grows w n i =
      go (log_of n w.logs)
    where
      go : (o : Option (NodeLog A)) → Grows w (taken_by w n i o)
      go None = stays w
      go (Some log) =
          one (is_up (Some log))
        where
          one : (t : Bool) → Grows w (cond t (record { logs = set w.logs (n - 1) (logged log i); sent = w.sent ++ newly_sent (sends_of log i) }) w)
          one true = (sends_of log i, envelopes_more w.sent (sends_of log i))
          one false = stays w

  arrives_grows : (w : Network A) (k : ℕ) (o : Option (Sent A)) → Grows w (message_arrives w k o)
  arrives_grows w k None = stays w
  arrives_grows w k (Some s) =
      go (is_up (log_of s.envelope.to w.logs))
    where
      go : (t : Bool) → Grows w (cond t (given_input (record { logs = w.logs; sent = with_arrival k w.sent }) s.envelope.to (Arrive s.envelope)) w)
      go true =
          let x = takes_grows (record { logs = w.logs; sent = with_arrival k w.sent }) s.envelope.to (Arrive s.envelope) in
          (x.0, x.1 ∙ ap (λ es. es ++ x.0) (arrival_alike k w.sent))
      go false = stays w

  happens_grows : (w : Network A) (e : NodeEvent A) → Grows w (after_node_event w e)
  happens_grows w (Submits n name op) = takes_grows w n (Submit name op)
  happens_grows w (Arrives k) = arrives_grows w k (slice_get w.sent k)
  happens_grows w (Ticks n) = takes_grows w n Tick
  happens_grows w (Campaigns n) = takes_grows w n Campaign
  happens_grows w (Crashes n) = takes_grows w n Crash

  happen_grows : (w : Network A) (es : List (NodeEvent A)) → Grows w (after_node_events w es)
  happen_grows w [] = stays w
  happen_grows w (e ∷ es) =
      let a = happens_grows w e in
      let b = happen_grows (after_node_event w e) es in
      (a.0 ++ b.0, b.1 ∙ ap (λ xs. xs ++ b.0) a.1 ∙ append_assoc (envelopes w) a.0 b.0)

  happen_then : (w : Network A) (early late : List (NodeEvent A)) → after_node_events w (early ++ late) ≡ after_node_events (after_node_events w early) late
  happen_then w [] late = refl
  happen_then w (e ∷ early) late = happen_then (after_node_event w e) early late

  later_grows : (first : Opening A) (early late : List (NodeEvent A)) → Grows (network_of first early) (network_of first (early ++ late))
  later_grows first early late = subst (Grows (network_of first early)) (sym (happen_then (new_network first) early late)) (happen_grows (network_of first early) late)

  abbrev roles_in : Opening A → List (NodeEvent A) → Roles (Command A) A
  roles_in first events = roles_of first.cluster (nodes_of first (network_of first events).logs) (envelopes (network_of first events))

  -- Agreement
  pub one_command : (first : Opening A) (events : List (NodeEvent A)) (slot : ℕ) (c d : Command A) → IsChosenIn first events slot c → IsChosenIn first events slot d → c ≡ d
  one_command first events slot c d x y = agree (roles_in first events) (every_run first events).kept.sound slot c d x y

  pub stays_chosen : (first : Opening A) (early late : List (NodeEvent A)) (slot : ℕ) (c : Command A) → IsChosenIn first early slot c → IsChosenIn first (early ++ late) slot c
  stays_chosen first early late slot c h =
      let g = later_grows first early late in
      subst (λ es. IsChosen first.cluster es slot c) (sym g.1) (chosen_more first.cluster (envelopes (network_of first early)) g.0 slot c h)

  -- Learning
  pub told_chosen : (first : Opening A) (events : List (NodeEvent A)) (from to slot : ℕ) (c : Command A) →
      IsIn (record { from = from; to = to; message = Decision slot c }) (envelopes (network_of first events)) → IsChosenIn first events slot c
  told_chosen first events from to slot c h = (every_run first events).kept.learned.told from to slot c h

  pub performed_prefix : (first : Opening A) (events : List (NodeEvent A)) (n : ℕ) (log : NodeLog A) → log_of n (network_of first events).logs ≡ Some log →
      IsPrefix (replayed log).replica.performed (order_of first events)
  performed_prefix first events n log e =
      let kept = (every_run first events).kept in
      let its : nodes_of first (network_of first events).logs n ≡ replayed log = ap (node_of first n) e in
      subst (λ node. IsPrefix node.replica.performed (order_of first events)) its
      (performed_first mail_rules (roles_in first events) kept.sound (nodes_of first (network_of first events).logs n).replica (kept.settled n).front (kept.learned.known n))

  -- Validity
  pub order_chosen : (first : Opening A) (events : List (NodeEvent A)) (slot : ℕ) (c : Command A) → IsIn (slot, c) (order_of first events) → IsChosenIn first events slot c
  order_chosen first events slot c h =
      let all : List (ℕ × Command A) = chosen first.cluster (envelopes (network_of first events)) in
      let among : IsIn (slot, c) (without_gap all) = in_once mail_rules [] (without_gap all) (slot, c) h in
      listed_chosen first.cluster (envelopes (network_of first events)) slot c (in_first (first_gap (length all) 1 all - 1) all (slot, c) among)

  pub chosen_submitted : (first : Opening A) (events : List (NodeEvent A)) (slot : ℕ) (c : Command A) → IsChosenIn first events slot c → WasSubmitted (network_of first events).logs c
  chosen_submitted first events slot c h =
      let x = asked_sent (envelopes (network_of first events)) (record { ballot = h.0; slot = slot; command = c }) h.1.0 in
      (every_run first events).kept.offers (record { from = x.0; to = x.1; message = P2a (record { ballot = h.0; slot = slot; command = c }) }) x.2

  -- the decided order only grows
  pub order_prefix : (first : Opening A) (early late : List (NodeEvent A)) → IsPrefix (order_of first early) (order_of first (early ++ late))
  order_prefix first early late =
      let g = later_grows first early late in
      order_grows mail_rules (roles_in first early) g.0 (roles_in first (early ++ late)) (every_run first (early ++ late)).kept.sound refl g.1
