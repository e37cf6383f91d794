-- What was sent stays, and arrives more and more often.
use Rattle.std.proofs.Common.{◌≡◌, ℕ, zero, suc, ◌+◌, ◌-◌, ◌≤◌, List, [], ◌∷◌, ◌++◌, Bool, true, false, Option, Some, None, refl, sym, ap, ◌∙◌, subst, inl, inr, arith, cond, set, length}
use Rattle.std.specs.Prelude.{◌⊎◌, slice_get, Result, Ok, Err, OnOk, OnErr}
use Rattle.node.specs.Nodes.{logged}
use Rattle.node.specs.Replay.{sends_of}
use Rattle.node.specs.declared.input.Input.{Input}
use Rattle.node.specs.declared.input.Input.TheVariants.{Submit, Arrive, Tick, Campaign, Crash}
use Rattle.node.specs.declared.log.NodeLog.{NodeLog}
use Rattle.runs.specs.Clients.{Client, client_of}
use Rattle.runs.specs.Interrupted.{IsInterrupted, IsItsCrashed, IsAddresseeCrashed}
use Rattle.runs.specs.Messages.{Network, NodeEvent, Submits, Arrives, Ticks, Campaigns, Crashes, log_of, is_up, newly_sent, taken_by, given_input, with_arrival, message_arrives, after_node_event, after_node_events}
use Rattle.runs.specs.Refusals.{step_refusal}
use Rattle.runs.specs.Worlds.{World, stepped}
use Rattle.runs.specs.declared.refused.Refused.{Refused}
use Rattle.runs.specs.Services as service
use Rattle.runs.specs.Services.{Service, Happening, Occurs, Lost, happens}
use Rattle.runs.specs.declared.config.Config.{Config}
use Rattle.runs.specs.declared.event.Event.{Event}
use Rattle.runs.specs.declared.event.Event.TheVariants as event
use Rattle.runs.specs.declared.sent.Sent.{Sent}
use Rattle.runs.proofs.ServiceRuns.{happens_follows}

module _ {A : Type 0} where
  -- the message is still there, and has arrived as often at least
  pub record Stays (s : Sent A) (o : Option (Sent A)) : Type 0 where
    pub now : Sent A
    pub there : o ≡ Some now
    pub same : now.envelope ≡ s.envelope
    pub often : s.arrived ≤ now.arrived

  pub record Grows (old new : List (Sent A)) : Type 0 where
    pub longer : length old ≤ length new
    pub each : (k : ℕ) (s : Sent A) → slice_get old k ≡ Some s → Stays s (slice_get new k)

  unmoved : (ss : List (Sent A)) → Grows ss ss
  unmoved ss = record { longer = omega arith; each = λ k s e. record { now = s; there = e; same = refl; often = omega arith } }

  on : (a b c : List (Sent A)) → Grows a b → Grows b c → Grows a c
  on a b c p q = record {
    longer = omega (arith, p.longer, q.longer);
    each = λ k s e.
        let x = p.each k s e in
        let y = q.each k x.now x.there in
        record { now = y.now; there = y.there; same = y.same ∙ x.same; often = omega (arith, x.often, y.often) };
  }

  got_before : (ss ts : List (Sent A)) (k : ℕ) (s : Sent A) → slice_get ss k ≡ Some s → slice_get (ss ++ ts) k ≡ Some s
  got_before [] ts k s e = absurd (cc)
  got_before (x ∷ ss) ts zero s e = e
  got_before (x ∷ ss) ts (suc k) s e = got_before ss ts k s e

  longer_by : (ss ts : List (Sent A)) → length ss ≤ length (ss ++ ts)
  longer_by [] ts = omega arith
  longer_by (x ∷ ss) ts = let rest = longer_by ss ts in omega (arith, rest)

  more : (ss ts : List (Sent A)) → Grows ss (ss ++ ts)
  more ss ts = record { longer = longer_by ss ts; each = λ k s e. record { now = s; there = got_before ss ts k s e; same = refl; often = omega arith } }

  one_arrival : (which : ℕ) (ss : List (Sent A)) (k : ℕ) (s : Sent A) → slice_get ss k ≡ Some s → Stays s (slice_get (with_arrival which ss) k)
  one_arrival which [] k s e = absurd (cc)
  one_arrival zero (x ∷ ss) zero s e =
      let same : x ≡ s = cc e in
      record { now = record { envelope = x.envelope; arrived = x.arrived + 1 }; there = refl; same = ap (λ (y : Sent A). y.envelope) same; often = let n : x.arrived ≡ s.arrived = ap (λ (y : Sent A). y.arrived) same in omega (arith, n) }
  one_arrival zero (x ∷ ss) (suc k) s e = record { now = s; there = e; same = refl; often = omega arith }
  one_arrival (suc which) (x ∷ ss) zero s e = record { now = s; there = e; same = refl; often = omega arith }
  one_arrival (suc which) (x ∷ ss) (suc k) s e = one_arrival which ss k s e

  as_long : (which : ℕ) (ss : List (Sent A)) → length ss ≡ length (with_arrival which ss)
  as_long which [] = refl
  as_long zero (x ∷ ss) = refl
  as_long (suc which) (x ∷ ss) = ap suc (as_long which ss)

  arrived : (which : ℕ) (ss : List (Sent A)) → Grows ss (with_arrival which ss)
  arrived which ss = record { longer = let n = as_long which ss in omega (arith, n); each = one_arrival which ss }

  takes_grow : (w : Network A) (n : ℕ) (i : Input A) → Grows w.sent (given_input w n i).sent
  takes_grow w n i =
      go (log_of n w.logs)
    where
      go : (o : Option (NodeLog A)) → Grows w.sent (taken_by w n i o).sent
      go None = unmoved w.sent
      go (Some log) =
          one (is_up (Some log))
        where
          one : (t : Bool) → Grows w.sent (cond t (record { logs = set w.logs (n - 1) (logged log i); sent = w.sent ++ newly_sent (sends_of log i) }) w).sent
          one true = more w.sent (newly_sent (sends_of log i))
          one false = unmoved w.sent

  arrives_grow : (w : Network A) (k : ℕ) (o : Option (Sent A)) → Grows w.sent (message_arrives w k o).sent
  arrives_grow w k None = unmoved w.sent
  arrives_grow w k (Some s) =
      go (is_up (log_of s.envelope.to w.logs))
    where
      counted : Network A
      counted = record { logs = w.logs; sent = with_arrival k w.sent }

      go : (t : Bool) → Grows w.sent (cond t (given_input counted s.envelope.to (Arrive s.envelope)) w).sent
      go true = on w.sent counted.sent (given_input counted s.envelope.to (Arrive s.envelope)).sent (arrived k w.sent) (takes_grow counted s.envelope.to (Arrive s.envelope))
      go false = unmoved w.sent

  happens_grow : (w : Network A) (e : NodeEvent A) → Grows w.sent (after_node_event w e).sent
  happens_grow w (Submits n name op) = takes_grow w n (Submit name op)
  happens_grow w (Arrives k) = arrives_grow w k (slice_get w.sent k)
  happens_grow w (Ticks n) = takes_grow w n Tick
  happens_grow w (Campaigns n) = takes_grow w n Campaign
  happens_grow w (Crashes n) = takes_grow w n Crash

  happen_grow : (w : Network A) (es : List (NodeEvent A)) → Grows w.sent (after_node_events w es).sent
  happen_grow w [] = unmoved w.sent
  happen_grow w (e ∷ es) = on w.sent (after_node_event w e).sent (after_node_events (after_node_event w e) es).sent (happens_grow w e) (happen_grow (after_node_event w e) es)

  happening_grows : (cfg : Config A) (w : Service A) (h : Happening A) → Grows w.network.sent (service.happens cfg w h).network.sent
  happening_grows cfg w h =
      let next = happens_follows w cfg h in
      subst (λ (n : Network A). Grows w.network.sent n.sent) (sym next.1) (happen_grow w.network next.0)

  pub occurs_grow : (cfg : Config A) (w : Service A) (e : Event A) → Grows w.network.sent (service.occurs cfg w e).network.sent
  occurs_grow cfg w e = happening_grows cfg w (Occurs e)

  follows_grow : (cfg : Config A) (w later : Service A) (h : Happening A) → later ≡ service.happens cfg w h → Grows w.network.sent later.network.sent
  follows_grow cfg w later h is = subst (λ (v : Service A). Grows w.network.sent v.network.sent) (sym is) (happening_grows cfg w h)

  -- a service stays where it was, or goes where one happening leads
  abbrev pub Moves : Config A → Service A → Service A → Type 0
  Moves cfg w later = (later ≡ w) ⊎ ((h : Happening A) × (later ≡ happens cfg w h))

  its_moves : (cfg : Config A) (w later : Service A) (c : Option (Client A)) → IsItsCrashed cfg c w later → Moves cfg w later
  its_moves cfg w later None is = absurd is
  its_moves cfg w later (Some c) is = inr (Occurs (event.Crash c.node), is)

  addressee_moves : (cfg : Config A) (w later : Service A) (s : Option (Sent A)) → IsAddresseeCrashed cfg s w later → Moves cfg w later
  addressee_moves cfg w later None is = absurd is
  addressee_moves cfg w later (Some s) is = inr (Occurs (event.Crash s.envelope.to), is)

  -- if an event found no memory
  pub interrupted_moves : (cfg : Config A) (e : Event A) (w later : Service A) → IsInterrupted cfg e w later → Moves cfg w later
  interrupted_moves cfg (event.Connect session node stamp) w later is = inl is
  interrupted_moves cfg (event.Line session line) w later (inl lost) = inr (Lost session, lost)
  interrupted_moves cfg (event.Line session line) w later (inr crashed) = its_moves cfg w later (client_of session w.clients) crashed
  interrupted_moves cfg (event.Hangup session) w later is = its_moves cfg w later (client_of session w.clients) is
  interrupted_moves cfg (event.Collect session) w later is = inr (Lost session, is)
  interrupted_moves cfg (event.Mail node user text key) w later is = inr (Occurs (event.Crash node), is)
  interrupted_moves cfg (event.Break node user) w later is = inr (Occurs (event.Crash node), is)
  interrupted_moves cfg (event.Arrive which) w later is = addressee_moves cfg w later (slice_get w.network.sent which) is
  interrupted_moves cfg (event.Tick node) w later is = inr (Occurs (event.Crash node), is)
  interrupted_moves cfg (event.Campaign node) w later is = inr (Occurs (event.Crash node), is)
  interrupted_moves cfg (event.Crash node) w later is = inr (Occurs (event.Crash node), is)

  moved_grow : (cfg : Config A) (w later : Service A) → Moves cfg w later → Grows w.network.sent later.network.sent
  moved_grow cfg w later (inl same) = subst (λ (v : Service A). Grows w.network.sent v.network.sent) (sym same) (unmoved w.network.sent)
  moved_grow cfg w later (inr one) = follows_grow cfg w later one.0 one.1

  -- whatever an event came to, messages stay
  pub step_grows : (w later : World A) (e : Event A) (result : Result (Unit {0}) Refused) → ((reason : Refused) → step_refusal w.config w.service e ≡ Some reason → later ≡ w)
      → OnOk result (later ≡ stepped w e) → (step_refusal w.config w.service e ≡ None → OnErr result (IsInterrupted w.config e w.service later.service))
      → Grows w.service.network.sent later.service.network.sent
  step_grows w later e result unchanged happened cut =
      go (step_refusal w.config w.service e) refl result happened cut
    where
      moves : World A → Type 0
      moves v = Grows w.service.network.sent v.service.network.sent

      go : (o : Option Refused) → step_refusal w.config w.service e ≡ o → (r : Result (Unit {0}) Refused) → OnOk r (later ≡ stepped w e)
          → (step_refusal w.config w.service e ≡ None → OnErr r (IsInterrupted w.config e w.service later.service)) → moves later
      go (Some reason) is r a b = subst moves (sym (unchanged reason is)) (unmoved w.service.network.sent)
      go None is (Ok done) a b = subst moves (sym a) (occurs_grow w.config w.service e)
      go None is (Err error) a b = moved_grow w.config w.service later.service (interrupted_moves w.config e w.service later.service (b is))
