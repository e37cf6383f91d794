-- What the type of a world keeps, after a step and after an outcome is taken.
use Rattle.std.proofs.Common.{◌≡◌, ℕ, zero, suc, ◌+◌, ◌≤◌, ◌<◌, List, [], ◌∷◌, ◌++◌, Bool, true, false, Option, Some, None, refl, sym, ap, ◌∙◌, subst, inl, inr, ⊎_elim, arith, cond, eqb, true≢false}
use Rattle.std.specs.Prelude.{◌⊎◌, is_some, option_map, slice_get}
use Rattle.std.specs.Option.{option_or}
use Rattle.ballot.specs.Nodes.{in_cluster}
use Rattle.std.proofs.lemmas.Bool.{eqb-true, lt-ltb, le-leb}
use Rattle.std.proofs.lemmas.List.{append-nil}
use Rattle.std.specs.Map.{lookup, set_value}
use Rattle.std.specs.Ordering.{is_eq}
use Rattle.maildrop.specs.CommandId.{CommandId, same_id, compare_ids}
use Rattle.maildrop.specs.Equality.{id_decides}
use Rattle.maildrop.specs.declared.op.Op.{Op}
use Rattle.maildrop.specs.declared.outcome.Outcome.{Outcome}
use Rattle.maildrop.specs.declared.op.Op.TheVariants as op
use Rattle.maildrop.proofs.IdOrder.{ids_eq}
use Rattle.session.specs.declared.state.State.{State}
use Rattle.node.specs.declared.log.NodeLog.{NodeLog}
use Rattle.node.specs.declared.log.Opening.{Opening}
use Rattle.runs.specs.Clients.{Client, Waits, client_of, standing_as, disconnected}
use Rattle.world.specs.Connections.{client_in, clients_in, shown, standing_in, awaited_by, connection_of, service_of, AreFit, AreUntaken}
use Rattle.world.specs.Hosts.{Host, Hosts, HasAnswer, HasAnswerAt, host_at, logs_of, network_of}
use Rattle.world.specs.Kept.{IsKept, IsGiven, IsAwaitedBy, IsUntaken, awaited_in, collected_by, new_host, new_hosts, world_of}
use Rattle.runs.specs.Messages.{Network, Submits, log_of, is_up, new_logs}
use Rattle.runs.specs.Interrupted.{IsCrashed, IsItsCrashed, IsAddresseeCrashed, IsInterrupted}
use Rattle.runs.specs.Projection.{IsProjected}
use Rattle.runs.specs.Refusals.{refusal_of, unless_down, answer_there, busy_without, collect_refusal}
use Rattle.runs.specs.Services.{Service, Happening, Occurs, Lost, new_service, opening_of, at_nodes, next_id, occurs, happens, run_of}
use Rattle.runs.specs.Worlds.{World, IsReached, new_world, answer_at, operation_of, operation_at, outcome_at, outcome_left, unless_taken, with_taken, without_outcome_at}
use Rattle.runs.specs.declared.config.Config.{Config}
use Rattle.world.specs.declared.connection.Connection.{Connection}
use Rattle.world.specs.declared.connection.Standing.{Standing}
use Rattle.world.specs.declared.connection.Standing.TheVariants as stands
use Rattle.runs.specs.declared.event.Event.{Event}
use Rattle.runs.specs.declared.event.Event.TheVariants as event
use Rattle.runs.specs.declared.refused.Refused.{Refused}
use Rattle.runs.specs.declared.refused.Refused.TheVariants.{Down}
use Rattle.runs.specs.declared.sent.Sent.{Sent}
use Rattle.world.proofs.Awaiting.{AreNumbered, are_numbered, given_later, not_given, now_given, same_clients, collected_quiet, lost_quiet, IsNew, IsDistinct, session_in, happens_awaits, every_distinct}
use Rattle.world.proofs.HostList.{log_at}
use Rattle.world.proofs.Hosting.{down_has}
use Rattle.runs.proofs.Logs.{some_same}
use Rattle.world.proofs.Refusing.{collect_stranded, refused_found}
use Rattle.world.proofs.Reached.{new_reached, next_reached, reached_projected}
use Rattle.runs.proofs.Decisions.{reached_nodes}
use Rattle.runs.proofs.ServiceRuns.{AreOfRun}
use Rattle.runs.proofs.Serving.{every_service}
use Rattle.world.proofs.Shown.{client_shown, shown_up}

-- Identities

-- another identity
pub other_id : (a b : CommandId) → (a ≡ b → ⊥) → is_eq (compare_ids a b) ≡ false
other_id a b apart =
    ids_eq a b ∙ go (same_id a b) refl
  where
    go : (t : Bool) → same_id a b ≡ t → t ≡ false
    go true q = absurd (apart ((id_decides a b).0 q))
    go false q = refl

differ : (a b : CommandId) → (a ≡ b → ⊥) → same_id a b ≡ false
differ a b apart = sym (ids_eq a b) ∙ other_id a b apart

-- what is found under an identity is found under an equal one
found_same : {X : Type 0} (a b : CommandId) (es : List (CommandId × X)) → a ≡ b → lookup (same_id a) es ≡ lookup (same_id b) es
found_same a b es e = ap (λ (i : CommandId). lookup (same_id i) es) e

-- a new entry after others
pub found_last : (id other : CommandId) (x : Bool) (es : List (CommandId × Bool)) (y : Bool) → lookup (same_id other) (es ++ (id, x) ∷ []) ≡ Some y
    → (lookup (same_id other) es ≡ Some y) ⊎ ((other ≡ id) × (x ≡ y))
found_last id other x [] y e =
    go (same_id other id) refl e
  where
    go : (t : Bool) → same_id other id ≡ t → cond t (Some x) None ≡ Some y → (lookup (same_id other) [] ≡ Some y) ⊎ ((other ≡ id) × (x ≡ y))
    go true q f = inr ((id_decides other id).0 q, some_same x y f)
    go false q f = absurd (cc)
found_last id other x (e0 ∷ es) y e =
    go (same_id other e0.0) e (found_last id other x es y)
  where
    go : (t : Bool) → cond t (Some e0.1) (lookup (same_id other) (es ++ (id, x) ∷ [])) ≡ Some y → (lookup (same_id other) (es ++ (id, x) ∷ []) ≡ Some y → (lookup (same_id other) es ≡ Some y) ⊎ ((other ≡ id) × (x ≡ y)))
        → (cond t (Some e0.1) (lookup (same_id other) es) ≡ Some y) ⊎ ((other ≡ id) × (x ≡ y))
    go true f ih = inl f
    go false f ih = ih f

-- and under another identity nothing new is found
none_last : (id other : CommandId) (x : Bool) (es : List (CommandId × Bool)) → (other ≡ id → ⊥) → lookup (same_id other) es ≡ None → lookup (same_id other) (es ++ (id, x) ∷ []) ≡ None
none_last id other x es apart none =
    go (lookup (same_id other) (es ++ (id, x) ∷ [])) refl
  where
    go : (o : Option Bool) → lookup (same_id other) (es ++ (id, x) ∷ []) ≡ o → o ≡ None
    go None q = refl
    go (Some y) q =
        ⊎_elim
        (λ (f : lookup (same_id other) es ≡ Some y). absurd (let no : Some y ≡ None = sym f ∙ none in cc))
        (λ (f : (other ≡ id) × (x ≡ y)). absurd (apart f.0))
        (found_last id other x es y q)

-- where the entry of an identity is written, the others stay
pub set_other : (id other : CommandId) (es : List (CommandId × Bool)) → (other ≡ id → ⊥) → lookup (same_id other) (set_value (same_id id) es true) ≡ lookup (same_id other) es
set_other id other [] apart = refl
set_other id other (e ∷ es) apart =
    go (same_id id e.0) refl (set_other id other es apart)
  where
    go : (t : Bool) → same_id id e.0 ≡ t → lookup (same_id other) (set_value (same_id id) es true) ≡ lookup (same_id other) es
        → lookup (same_id other) (cond t ((e.0, true) ∷ es) (e ∷ set_value (same_id id) es true)) ≡ cond (same_id other e.0) (Some e.1) (lookup (same_id other) es)
    go true q ih =
        let no : same_id other e.0 ≡ false = differ other e.0 (λ p. apart (p ∙ sym ((id_decides id e.0).0 q))) in
        rw (no) refl
    go false q ih = ap (λ o. cond (same_id other e.0) (Some e.1) o) ih

pub set_own : (id : CommandId) (es : List (CommandId × Bool)) (x : Bool) → lookup (same_id id) es ≡ Some x → lookup (same_id id) (set_value (same_id id) es true) ≡ Some true
set_own id [] x e = absurd (cc)
set_own id (y ∷ es) x e =
    go (same_id id y.0) refl e (set_own id es x)
  where
    go : (t : Bool) → same_id id y.0 ≡ t → cond t (Some y.1) (lookup (same_id id) es) ≡ Some x → (lookup (same_id id) es ≡ Some x → lookup (same_id id) (set_value (same_id id) es true) ≡ Some true)
        → lookup (same_id id) (cond t ((y.0, true) ∷ es) (y ∷ set_value (same_id id) es true)) ≡ Some true
    go true q f ih = rw (q) refl
    go false q f ih = rw (q) (ih f)

-- what is written over itself
pub set_same : (id : CommandId) (es : List (CommandId × Bool)) (x : Bool) → lookup (same_id id) es ≡ Some x → set_value (same_id id) es x ≡ es
set_same id [] x e = refl
set_same id (y ∷ es) x e =
    go (same_id id y.0) e (set_same id es x)
  where
    go : (t : Bool) → cond t (Some y.1) (lookup (same_id id) es) ≡ Some x → (lookup (same_id id) es ≡ Some x → set_value (same_id id) es x ≡ es) → cond t ((y.0, x) ∷ es) (y ∷ set_value (same_id id) es x) ≡ y ∷ es
    go true q ih = let one : y.1 ≡ x = some_same y.1 x q in ap (λ b. (y.0, b) ∷ es) (sym one)
    go false q ih = ap (λ ys. y ∷ ys) (ih q)

-- two identities are one or differ
pub one_or_other : (a b : CommandId) → (a ≡ b) ⊎ (a ≡ b → ⊥)
one_or_other a b =
    go (same_id a b) refl
  where
    go : (t : Bool) → same_id a b ≡ t → (a ≡ b) ⊎ (a ≡ b → ⊥)
    go true q = inl ((id_decides a b).0 q)
    go false q = inr (λ e. true≢false (sym ((id_decides a b).1 e) ∙ q))

some_none : (x : Bool) → Some x ≡ None → ⊥
some_none x e = absurd (cc)

-- what is refused for no reason has no first one
pub first_none : (a b : Option Refused) → option_or a b ≡ None → a ≡ None
first_none None b e = refl
first_none (Some r) b e = absurd (cc)

-- the next number is a node's
pub in_it : (size place me : ℕ) → me ≡ place + 1 → place < size → in_cluster size me ≡ true
in_it size place me e less =
    let first : 0 < me = omega (arith, e) in
    let last : me ≤ size = omega (arith, e, less) in
    rw (lt-ltb 0 me first, le-leb me size last) refl

module _ {A : Type 0} where
  -- What a run leads to

  pub reached_numbered : (cfg : Config A) (w : Service A) → IsReached cfg w → AreNumbered w
  reached_numbered cfg w reached = subst (λ (x : Service A). AreNumbered x) reached.1 (are_numbered cfg (run_of cfg reached.0) (every_service cfg reached.0).nodes)

  pub reached_distinct : (cfg : Config A) (w : Service A) → IsReached cfg w → IsDistinct w
  reached_distinct cfg w reached = subst (λ (x : Service A). IsDistinct x) reached.1 (every_distinct cfg reached.0)

  -- What a connection awaits

  -- the session of a connection whose node is up awaits what the connection does
  pub awaits_shown : (hosts : Hosts A) (es : List (ℕ × Connection A)) (session : ℕ) (c : Connection A) (id : CommandId) → connection_of session es ≡ Some c → awaited_by c.standing ≡ Some id
      → is_up (log_of c.node (network_of hosts).logs) ≡ true → IsAwaitedBy (service_of hosts es) session id
  awaits_shown hosts es session c id found awaits up =
      record {
        client = client_in c;
        state = c.session.state;
        its = client_shown (network_of hosts).logs session es ∙ ap (λ o. option_map (λ x. shown (network_of hosts).logs (client_in x)) o) found ∙ ap Some (shown_up (network_of hosts).logs (client_in c) up);
        waits = stands_so c.standing awaits;
      }
    where
      stands_so : (s : Standing) → awaited_by s ≡ Some id → standing_in s c.session.state ≡ Waits c.session.state id
      stands_so (stands.Waits its) e = ap (Waits c.session.state) (some_same its id e)
      stands_so stands.Hears e = absurd (cc)
      stands_so (stands.Failed lock) e = absurd (cc)
      stands_so stands.Disconnected e = absurd (cc)
      stands_so stands.Over e = absurd (cc)

  -- at a node that is down nothing is there
  pub down_has_at : (hosts : Hosts A) (n : ℕ) (id : CommandId) → is_up (log_of n (network_of hosts).logs) ≡ false → HasAnswerAt n id hosts
  down_has_at hosts n id down host at =
      down_has id host (ap is_up (sym (log_at n hosts.hosts ∙ ap (λ o. option_map (λ (h : Host A). h.log) o) at)) ∙ down)

  pub kept_untaken : (cfg : Config A) (hosts : Hosts A) (es : List (ℕ × Connection A)) (ops : List (CommandId × Bool)) → IsKept cfg hosts es ops → AreUntaken hosts es
  kept_untaken cfg hosts es ops kept session c id found awaits =
      go (is_up (log_of c.node (network_of hosts).logs)) refl
    where
      go : (t : Bool) → is_up (log_of c.node (network_of hosts).logs) ≡ t → HasAnswerAt c.node id hosts
      go true up = kept.untaken id (inr (inl (session, awaits_shown hosts es session c id found awaits up))) c.node
      go false down = down_has_at hosts c.node id down

  -- a command that is submitted next isn't an operation that was given before
  pub kept_new : (cfg : Config A) (hosts : Hosts A) (es : List (ℕ × Connection A)) (ops : List (CommandId × Bool)) → IsKept cfg hosts es ops
      → (node : ℕ) (user : List ℕ) (log : NodeLog A) → log_of node (network_of hosts).logs ≡ Some log → lookup (same_id (next_id log user)) ops ≡ None
  kept_new cfg hosts es ops kept node user log at =
      go (lookup (same_id (next_id log user)) ops) refl
    where
      go : (o : Option Bool) → lookup (same_id (next_id log user)) ops ≡ o → o ≡ None
      go None q = refl
      go (Some taken) q = absurd (not_given (service_of hosts es) (reached_numbered cfg (service_of hosts es) kept.reached) node log user at (kept.given (next_id log user) taken q))

  -- What a step leaves

  -- an answer that a session takes is of a command that it awaits
  collected_awaited : (hosts : Hosts A) (es : List (ℕ × Connection A)) (session : ℕ) (id : CommandId) → refusal_of (service_of hosts es) (event.Collect session) ≡ None → collected_by es (event.Collect session) ≡ Some id
      → IsAwaitedBy (service_of hosts es) session id
  collected_awaited hosts es session id possible collected =
      go (connection_of session es) refl collected
    where
      go : (o : Option (Connection A)) → connection_of session es ≡ o → awaited_in o ≡ Some id → IsAwaitedBy (service_of hosts es) session id
      go None found e = absurd (cc)
      go (Some c) found e =
          awaits_shown hosts es session c id found e
          (ready_up (log_of c.node (network_of hosts).logs) c.standing c.session.state e
          (sym (refused_found hosts es session collect_refusal collect_stranded c found) ∙ possible))
        where
          ready_up : (o : Option (NodeLog A)) (s : Standing) (state : State A) → awaited_by s ≡ Some id → collect_refusal o (standing_in s state) ≡ None → is_up o ≡ true
          ready_up o (stands.Waits its) state q p =
              by (is_up o) p
            where
              by : (t : Bool) → cond t (busy_without (answer_there o (Waits state its))) (Some Down) ≡ None → t ≡ true
              by true f = refl
              by false f = absurd (cc)
          ready_up o stands.Hears state q p = absurd (cc)
          ready_up o (stands.Failed lock) state q p = absurd (cc)
          ready_up o stands.Disconnected state q p = absurd (cc)
          ready_up o stands.Over state q p = absurd (cc)

  module _ (cfg : Config A) (hosts hosts2 : Hosts A) (es es2 : List (ℕ × Connection A)) (ops : List (CommandId × Bool)) (kept : IsKept cfg hosts es ops) (fit : AreFit es2) where
    abbrev w : Service A
    w = service_of hosts es

    abbrev later : Service A
    later = service_of hosts2 es2

    -- what was not taken later was not taken before
    was_untaken : (h : Happening A) → later ≡ happens cfg w h → (id : CommandId) → IsUntaken later ops id → IsUntaken w ops id
    was_untaken h moved id (inl new) = inl (λ given. new (subst (λ (x : Service A). IsGiven x id) (sym moved) (given_later cfg w h id given)))
    was_untaken h moved id (inr (inl a)) =
        ⊎_elim
        (λ (x : IsAwaitedBy w a.0 id). inr (inl (a.0, x)))
        (λ (x : (a.0 ≡ session_in h) × IsNew w (happens cfg w h) id). inl x.1.before)
        (happens_awaits cfg w (reached_numbered cfg w kept.reached) h a.0 id (subst (λ (x : Service A). IsAwaitedBy x a.0 id) moved a.1))
    was_untaken h moved id (inr (inr left)) = inr (inr left)

    -- a happening that gives no operation from outside
    pub kept_on : (e : Event A) (h : Happening A) → later ≡ happens cfg w h
        → ((n : ℕ) (id : CommandId) → (collected_by es e ≡ Some id → ⊥) → HasAnswerAt n id hosts → HasAnswerAt n id hosts2)
        → ((id : CommandId) → collected_by es e ≡ Some id → IsUntaken later ops id → ⊥)
        → IsKept cfg hosts2 es2 ops
    kept_on e h moved stays quiet =
        record {
          reached = subst (λ (x : Service A). IsReached cfg x) (sym moved) (next_reached cfg w h kept.reached);
          fit = fit;
          untaken = λ id u n. stays n id (λ q. quiet id q u) (kept.untaken id (was_untaken h moved id u) n);
          given = λ id taken q. subst (λ (x : Service A). IsGiven x id) (sym moved) (given_later cfg w h id (kept.given id taken q));
          apart = λ id s a.
              ⊎_elim
              (λ (x : IsAwaitedBy w s id). kept.apart id s x)
              (λ (x : (s ≡ session_in h) × IsNew w (happens cfg w h) id). none_given x.1.before (lookup (same_id id) ops) refl)
              (happens_awaits cfg w (reached_numbered cfg w kept.reached) h s id (subst (λ (x : Service A). IsAwaitedBy x s id) moved a));
        }
      where
        none_given : {id : CommandId} → (IsGiven w id → ⊥) → (o : Option Bool) → lookup (same_id id) ops ≡ o → lookup (same_id id) ops ≡ None
        none_given {id = id} new None q = q
        none_given {id = id} new (Some taken) q = absurd (new (kept.given id taken q))

    -- an operation that is given from outside
    kept_given : (h : Happening A) → later ≡ happens cfg w h → (node : ℕ) (user : List ℕ) (op : Op A) (log : NodeLog A) → log_of node w.network.logs ≡ Some log → is_up (Some log) ≡ true
        → later ≡ at_nodes w (Submits node user op) → ((n : ℕ) (id : CommandId) → HasAnswerAt n id hosts → HasAnswerAt n id hosts2)
        → IsKept cfg hosts2 es2 (ops ++ (next_id log user, false) ∷ [])
    kept_given h moved node user op log at up submitted stays =
        record {
          reached = subst (λ (x : Service A). IsReached cfg x) (sym moved) (next_reached cfg w h kept.reached);
          fit = fit;
          untaken = λ id u n. stays n id (kept.untaken id (before id u) n);
          given = λ id taken q.
              ⊎_elim
              (λ (x : lookup (same_id id) ops ≡ Some taken). subst (λ (x : Service A). IsGiven x id) (sym moved) (given_later cfg w h id (kept.given id taken x)))
              (λ (x : (id ≡ its) × (false ≡ taken)). subst (λ i. IsGiven later i) (sym x.0) after)
              (found_last its id false ops taken q);
          apart = λ id s a.
              let x = waits_before id s a in
              none_last its id false ops (λ e. new (subst (λ i. IsGiven w i) e ((reached_distinct cfg w kept.reached).given s id x))) (kept.apart id s x);
        }
      where
        its : CommandId
        its = next_id log user

        numbered : AreNumbered w
        numbered = reached_numbered cfg w kept.reached

        new : IsGiven w (next_id log user) → ⊥
        new = not_given w numbered node log user at

        after : IsGiven later (next_id log user)
        after = subst (λ (x : Service A). IsGiven x (next_id log user)) (sym submitted) (now_given w numbered node log user op at up)

        waits_before : (id : CommandId) (s : ℕ) → IsAwaitedBy later s id → IsAwaitedBy w s id
        waits_before id s a = same_clients w later s id (ap (λ (x : Service A). x.clients) submitted) a

        before : (id : CommandId) → IsUntaken later (ops ++ (next_id log user, false) ∷ []) id → IsUntaken w ops id
        before id (inl none) = was_untaken h moved id (inl none)
        before id (inr (inl a)) = inr (inl (a.0, waits_before id a.0 a.1))
        before id (inr (inr left)) =
            ⊎_elim
            (λ (x : lookup (same_id id) ops ≡ Some false). inr (inr x))
            (λ (x : (id ≡ next_id log user) × (false ≡ false)). inl (λ given. new (subst (λ i. IsGiven w i) x.0 given)))
            (found_last (next_id log user) id false ops false left)

    -- a session took an answer, whose command it was alone to await
    collect_quiet : (session : ℕ) (h : Happening A) → later ≡ happens cfg w h → refusal_of w (event.Collect session) ≡ None → ((id : CommandId) → IsAwaitedBy later session id → ⊥)
        → (id : CommandId) → collected_by es (event.Collect session) ≡ Some id → IsUntaken later ops id → ⊥
    collect_quiet session h moved possible over id collected untaken =
        go untaken
      where
        here : IsAwaitedBy w session id
        here = collected_awaited hosts es session id possible collected

        distinct : IsDistinct w
        distinct = reached_distinct cfg w kept.reached

        go : IsUntaken later ops id → ⊥
        go (inl new) = new (subst (λ (x : Service A). IsGiven x id) (sym moved) (given_later cfg w h id (distinct.given session id here)))
        go (inr (inl a)) =
            ⊎_elim
            (λ (x : IsAwaitedBy w a.0 id). over id (subst (λ s. IsAwaitedBy later s id) (distinct.one a.0 session id x here) a.1))
            (λ (x : (a.0 ≡ session_in h) × IsNew w (happens cfg w h) id). x.1.before (distinct.given session id here))
            (happens_awaits cfg w (reached_numbered cfg w kept.reached) h a.0 id (subst (λ (x : Service A). IsAwaitedBy x a.0 id) moved a.1))
        go (inr (inr left)) = absurd (let none : Some false ≡ None = sym left ∙ kept.apart id session here in cc)

    abbrev pub AnswersStay : Event A → Type 0
    AnswersStay e = (n : ℕ) (id : CommandId) → (collected_by es e ≡ Some id → ⊥) → HasAnswerAt n id hosts → HasAnswerAt n id hosts2

    -- an event that gives no operation from outside, and takes no answer
    kept_plain : (e : Event A) → ((id : CommandId) → collected_by es e ≡ Some id → ⊥) → (h : Happening A) → later ≡ happens cfg w h → AnswersStay e → IsKept cfg hosts2 es2 ops
    kept_plain e none h moved stays = kept_on e h moved stays (λ id q u. none id q)

    submitted_after : (node : ℕ) (user : List ℕ) (op : Op A) (h : Happening A) → later ≡ happens cfg w h → later ≡ at_nodes w (Submits node user op)
        → ((n : ℕ) (id : CommandId) → HasAnswerAt n id hosts → HasAnswerAt n id hosts2)
        → (o : Option (NodeLog A)) → log_of node w.network.logs ≡ o → unless_down o None ≡ None → IsKept cfg hosts2 es2 (ops ++ operation_at o user)
    submitted_after node user op h moved submitted stays None at e = absurd (cc)
    submitted_after node user op h moved submitted stays (Some log) at e =
        go (is_up (Some log)) refl e
      where
        go : (t : Bool) → is_up (Some log) ≡ t → cond t None (Some Down) ≡ None → IsKept cfg hosts2 es2 (ops ++ (next_id log user, false) ∷ [])
        go true up q = kept_given h moved node user op log at up submitted stays
        go false up q = absurd (cc)

    none_more : IsKept cfg hosts2 es2 ops → IsKept cfg hosts2 es2 (ops ++ [])
    none_more x = subst (λ os. IsKept cfg hosts2 es2 os) (sym (append-nil ops)) x

    -- after an event
    pub kept_after : (e : Event A) → refusal_of w e ≡ None → later ≡ occurs cfg w e → AnswersStay e → IsKept cfg hosts2 es2 (ops ++ operation_of w e)
    kept_after (event.Connect session node stamp) possible moved stays = none_more (kept_plain (event.Connect session node stamp) (λ id q. absurd (cc)) (Occurs (event.Connect session node stamp)) moved stays)
    kept_after (event.Line session line) possible moved stays = none_more (kept_plain (event.Line session line) (λ id q. absurd (cc)) (Occurs (event.Line session line)) moved stays)
    kept_after (event.Hangup session) possible moved stays = none_more (kept_plain (event.Hangup session) (λ id q. absurd (cc)) (Occurs (event.Hangup session)) moved stays)
    kept_after (event.Collect session) possible moved stays =
        none_more (kept_on (event.Collect session) (Occurs (event.Collect session)) moved stays
        (collect_quiet session (Occurs (event.Collect session)) moved possible (collected_quiet cfg w later session possible moved)))
    kept_after (event.Mail node user text key) possible moved stays =
        submitted_after node user (op.Mail text key) (Occurs (event.Mail node user text key)) moved moved (λ n id has. stays n id (λ q. absurd (cc)) has) (log_of node w.network.logs) refl possible
    kept_after (event.Break node user) possible moved stays =
        submitted_after node user op.Break (Occurs (event.Break node user)) moved moved (λ n id has. stays n id (λ q. absurd (cc)) has) (log_of node w.network.logs) refl possible
    kept_after (event.Arrive which) possible moved stays = none_more (kept_plain (event.Arrive which) (λ id q. absurd (cc)) (Occurs (event.Arrive which)) moved stays)
    kept_after (event.Tick node) possible moved stays = none_more (kept_plain (event.Tick node) (λ id q. absurd (cc)) (Occurs (event.Tick node)) moved stays)
    kept_after (event.Campaign node) possible moved stays = none_more (kept_plain (event.Campaign node) (λ id q. absurd (cc)) (Occurs (event.Campaign node)) moved stays)
    kept_after (event.Crash node) possible moved stays = none_more (kept_plain (event.Crash node) (λ id q. absurd (cc)) (Occurs (event.Crash node)) moved stays)

    -- after one for which there was no memory
    crashed_kept : (e : Event A) → ((id : CommandId) → collected_by es e ≡ Some id → ⊥) → (node : ℕ) → IsCrashed cfg node w later → AnswersStay e → IsKept cfg hosts2 es2 ops
    crashed_kept e none node moved stays = kept_plain e none (Occurs (event.Crash node)) moved stays

    its_kept : (e : Event A) → ((id : CommandId) → collected_by es e ≡ Some id → ⊥) → (o : Option (Client A)) → IsItsCrashed cfg o w later → AnswersStay e → IsKept cfg hosts2 es2 ops
    its_kept e none None moved stays = absurd moved
    its_kept e none (Some c) moved stays = crashed_kept e none c.node moved stays

    addressee_kept : (e : Event A) → ((id : CommandId) → collected_by es e ≡ Some id → ⊥) → (o : Option (Sent A)) → IsAddresseeCrashed cfg o w later → AnswersStay e → IsKept cfg hosts2 es2 ops
    addressee_kept e none None moved stays = absurd moved
    addressee_kept e none (Some s) moved stays = crashed_kept e none s.envelope.to moved stays

    -- nothing has happened
    kept_same : (e : Event A) → ((id : CommandId) → collected_by es e ≡ Some id → ⊥) → later ≡ w → AnswersStay e → IsKept cfg hosts2 es2 ops
    kept_same e none moved stays =
        record {
          reached = subst (λ (x : Service A). IsReached cfg x) (sym moved) kept.reached;
          fit = fit;
          untaken = λ id u n. stays n id (none id) (kept.untaken id (subst (λ (x : Service A). IsUntaken x ops id) moved u) n);
          given = λ id taken q. subst (λ (x : Service A). IsGiven x id) (sym moved) (kept.given id taken q);
          apart = λ id s a. kept.apart id s (subst (λ (x : Service A). IsAwaitedBy x s id) moved a);
        }

    pub kept_cut : (e : Event A) → refusal_of w e ≡ None → IsInterrupted cfg e w later → AnswersStay e → IsKept cfg hosts2 es2 ops
    kept_cut (event.Connect session node stamp) possible cut stays = kept_same (event.Connect session node stamp) (λ id q. absurd (cc)) cut stays
    kept_cut (event.Line session line) possible (inl lost) stays = kept_plain (event.Line session line) (λ id q. absurd (cc)) (Lost session) lost stays
    kept_cut (event.Line session line) possible (inr crashed) stays = its_kept (event.Line session line) (λ id q. absurd (cc)) (client_of session w.clients) crashed stays
    kept_cut (event.Hangup session) possible cut stays = its_kept (event.Hangup session) (λ id q. absurd (cc)) (client_of session w.clients) cut stays
    kept_cut (event.Collect session) possible cut stays =
        kept_on (event.Collect session) (Lost session) cut stays (collect_quiet session (Lost session) cut possible (lost_quiet cfg w later session possible cut))
    kept_cut (event.Mail node user text key) possible cut stays = crashed_kept (event.Mail node user text key) (λ id q. absurd (cc)) node cut stays
    kept_cut (event.Break node user) possible cut stays = crashed_kept (event.Break node user) (λ id q. absurd (cc)) node cut stays
    kept_cut (event.Arrive which) possible cut stays = addressee_kept (event.Arrive which) (λ id q. absurd (cc)) (slice_get w.network.sent which) cut stays
    kept_cut (event.Tick node) possible cut stays = crashed_kept (event.Tick node) (λ id q. absurd (cc)) node cut stays
    kept_cut (event.Campaign node) possible cut stays = crashed_kept (event.Campaign node) (λ id q. absurd (cc)) node cut stays
    kept_cut (event.Crash node) possible cut stays = crashed_kept (event.Crash node) (λ id q. absurd (cc)) node cut stays

  -- A world that begins

  host_last : (first : Opening A) (n m k : ℕ) → n + m ≡ k → new_hosts first n (suc m) ≡ new_hosts first n m ++ new_host first k ∷ []
  host_last first n zero k e = let same : n ≡ k = omega (arith, e) in ap (λ j. new_host first j ∷ []) same
  host_last first n (suc m) k e = let next : suc n + m ≡ k = omega (arith, e) in ap (λ hs. new_host first n ∷ hs) (host_last first (suc n) m k next)

  pub host_more : (first : Opening A) (m : ℕ) → new_hosts first 1 (m + 1) ≡ new_hosts first 1 m ++ new_host first (m + 1) ∷ []
  host_more first m =
      let same : 1 + m ≡ m + 1 = omega arith in
      let next : m + 1 ≡ suc m = omega arith in
      ap (new_hosts first 1) next ∙ host_last first 1 m (m + 1) same

  pub begun_logs : (first : Opening A) (n m : ℕ) → logs_of (new_hosts first n m) ≡ new_logs first n m
  begun_logs first n zero = refl
  begun_logs first n (suc m) = ap (λ logs. record { opening = record first { me = n }; inputs = [] } ∷ logs) (begun_logs first (suc n) m)

  pub begun_service : (cfg : Config A) (hosts : List (Host A)) → hosts ≡ new_hosts (opening_of cfg) 1 cfg.cluster → service_of (record { hosts = hosts; sent = [] }) [] ≡ new_service cfg
  begun_service cfg hosts same = ap (λ logs. record { network = record { logs = logs; sent = [] }; clients = [] }) (ap logs_of same ∙ begun_logs (opening_of cfg) 1 cfg.cluster)

  begun_answers : (first : Opening A) (n m k : ℕ) (id : CommandId) (host : Host A) → slice_get (new_hosts first n m) k ≡ Some host → HasAnswer id host
  begun_answers first n zero k id host at = absurd (cc)
  begun_answers first n (suc m) zero id host at = subst (λ (h : Host A). HasAnswer id h) (some_same _ host at) (λ up. refl)
  begun_answers first n (suc m) (suc k) id host at = begun_answers first (suc n) m k id host at

  pub begun_kept : (cfg : Config A) (hosts : List (Host A)) → hosts ≡ new_hosts (opening_of cfg) 1 cfg.cluster → IsKept cfg (record { hosts = hosts; sent = [] }) [] []
  begun_kept cfg hosts same =
      record {
        reached = subst (λ (x : Service A). IsReached cfg x) (sym (begun_service cfg hosts same)) (new_reached cfg);
        fit = λ session c found. absurd (cc);
        untaken = λ id u n host at. has id n host (ap (λ hs. host_at n hs) (sym same) ∙ at);
        given = λ id taken q. absurd (cc);
        apart = λ id s a. refl;
      }
    where
      has : (id : CommandId) (n : ℕ) (host : Host A) → host_at n (new_hosts (opening_of cfg) 1 cfg.cluster) ≡ Some host → HasAnswer id host
      has id zero host at = absurd (cc)
      has id (suc n) host at = begun_answers (opening_of cfg) 1 cfg.cluster n id host at

  module _ (cfg : Config A) (list : List (Host A)) (hosts : Hosts A) (es : List (ℕ × Connection A)) (ops : List (CommandId × Bool))
      (all : list ≡ new_hosts (opening_of cfg) 1 cfg.cluster) (is : hosts ≡ record { hosts = list; sent = [] }) (nobody : es ≡ []) (nothing : ops ≡ []) where
    pub begun : IsKept cfg hosts es ops
    begun =
        subst (λ (h : Hosts A). IsKept cfg h es ops) (sym is)
        (subst (λ cs. IsKept cfg (record { hosts = list; sent = [] }) cs ops) (sym nobody)
        (subst (λ os. IsKept cfg (record { hosts = list; sent = [] }) [] os) (sym nothing) (begun_kept cfg list all)))

    pub begun_world : world_of cfg hosts es ops ≡ new_world cfg
    begun_world =
        ap (λ (h : Hosts A). world_of cfg h es ops) is
        ∙ ap (λ cs. world_of cfg (record { hosts = list; sent = [] }) cs ops) nobody
        ∙ ap (λ os. world_of cfg (record { hosts = list; sent = [] }) [] os) nothing
        ∙ ap (λ (w : Service A). record { config = cfg; service = w; operations = [] }) (begun_service cfg list all)

  -- An outcome is taken

  pub kept_taken : (cfg : Config A) (hosts hosts2 : Hosts A) (es : List (ℕ × Connection A)) (ops : List (CommandId × Bool)) (id : CommandId) → IsKept cfg hosts es ops
      → network_of hosts2 ≡ network_of hosts → lookup (same_id id) ops ≡ Some false
      → ((n : ℕ) (other : CommandId) → is_eq (compare_ids id other) ≡ false → HasAnswerAt n other hosts → HasAnswerAt n other hosts2)
      → IsKept cfg hosts2 es (with_taken id ops)
  kept_taken cfg hosts hosts2 es ops id kept same left others =
      record {
        reached = subst (λ (x : Service A). IsReached cfg x) (sym one) kept.reached;
        fit = kept.fit;
        untaken = λ other u n. let x = before other u in others n other (other_id id other (λ e. x.0 (sym e))) (kept.untaken other x.1 n);
        given = λ other taken q. subst (λ (x : Service A). IsGiven x other) (sym one) (still_given other taken q (one_or_other other id));
        apart = λ other s a. let x = subst (λ (x : Service A). IsAwaitedBy x s other) one a in set_other id other ops (not_this other s x) ∙ kept.apart other s x;
      }
    where
      one : service_of hosts2 es ≡ service_of hosts es
      one = ap (λ (n : Network A). record { network = n; clients = clients_in n.logs es }) same

      not_this : (other : CommandId) (s : ℕ) → IsAwaitedBy (service_of hosts es) s other → other ≡ id → ⊥
      not_this other s a e = absurd (let no : Some false ≡ None = sym left ∙ found_same id other ops (sym e) ∙ kept.apart other s a in cc)

      still_given : (other : CommandId) (taken : Bool) → lookup (same_id other) (with_taken id ops) ≡ Some taken → (other ≡ id) ⊎ (other ≡ id → ⊥) → IsGiven (service_of hosts es) other
      still_given other taken q (inl e) = subst (λ i. IsGiven (service_of hosts es) i) (sym e) (kept.given id false left)
      still_given other taken q (inr apart) = kept.given other taken (sym (set_other id other ops apart) ∙ q)

      left_other : (other : CommandId) → lookup (same_id other) (with_taken id ops) ≡ Some false → (other ≡ id) ⊎ (other ≡ id → ⊥) → (other ≡ id → ⊥) × (lookup (same_id other) ops ≡ Some false)
      left_other other q (inl e) = absurd (let no : Some true ≡ Some false = sym (set_own id ops false left) ∙ found_same id other (with_taken id ops) (sym e) ∙ q in cc)
      left_other other q (inr apart) = (apart, sym (set_other id other ops apart) ∙ q)

      before : (other : CommandId) → IsUntaken (service_of hosts2 es) (with_taken id ops) other → (other ≡ id → ⊥) × IsUntaken (service_of hosts es) ops other
      before other (inl new) =
          let no : IsGiven (service_of hosts es) other → ⊥ = λ g. new (subst (λ (x : Service A). IsGiven x other) (sym one) g) in
          (λ e. no (subst (λ i. IsGiven (service_of hosts es) i) (sym e) (kept.given id false left)), inl no)
      before other (inr (inl a)) = let x = subst (λ (x : Service A). IsAwaitedBy x a.0 other) one a.1 in (not_this other a.0 x, inr (inl (a.0, x)))
      before other (inr (inr q)) = let x = left_other other q (one_or_other other id) in (x.0, inr (inr x.1))

  -- what an outcome is taken of
  outcome_there : (node its : ℕ) (logs : List (NodeLog A)) (f : Option (NodeLog A) → Option (Outcome A)) → cond (eqb node its) (f (log_of node logs)) None ≡ cond (eqb node its) (f (log_of its logs)) None
  outcome_there node its logs f =
      go (eqb node its) refl
    where
      go : (t : Bool) → eqb node its ≡ t → cond t (f (log_of node logs)) None ≡ cond t (f (log_of its logs)) None
      go true q = ap (λ n. f (log_of n logs)) (eqb-true node its q)
      go false q = refl

  module _ (cfg : Config A) (hosts hosts2 : Hosts A) (es : List (ℕ × Connection A)) (ops ops2 : List (CommandId × Bool)) (node : ℕ) (id : CommandId) (result : Option (Outcome A))
      (is : result ≡ cond (eqb node id.ticket.node) (unless_taken (lookup (same_id id) ops) (answer_at (log_of node (network_of hosts).logs) id)) None)
      (same : network_of hosts2 ≡ network_of hosts) (ops_then : ops2 ≡ cond (is_some result) (with_taken id ops) ops) where
    pub took_outcome : result ≡ outcome_at (world_of cfg hosts es ops) node id
    took_outcome = is ∙ outcome_there node id.ticket.node (network_of hosts).logs (λ o. unless_taken (lookup (same_id id) ops) (answer_at o id))

    pub took_world : world_of cfg hosts2 es ops2 ≡ without_outcome_at (world_of cfg hosts es ops) node id
    took_world =
        ap (λ (n : Network A). record { config = cfg; service = record { network = n; clients = clients_in n.logs es }; operations = ops2 }) same
        ∙ ap (λ os. world_of cfg hosts es os) (ops_then ∙ ap (λ o. cond (is_some o) (with_taken id ops) ops) took_outcome)
        ∙ go (eqb node id.ticket.node) (is_some (outcome_left (world_of cfg hosts es ops) id)) refl
      where
        go : (t u : Bool) → is_some (outcome_left (world_of cfg hosts es ops) id) ≡ u
            → world_of cfg hosts es (cond (is_some (cond t (outcome_left (world_of cfg hosts es ops) id) None)) (with_taken id ops) ops)
            ≡ cond t (cond (is_some (outcome_left (world_of cfg hosts es ops) id)) (world_of cfg hosts es (with_taken id ops)) (world_of cfg hosts es ops)) (world_of cfg hosts es ops)
        go true true q = rw (q) refl
        go true false q = rw (q) refl
        go false u q = refl

    pub took_kept : IsKept cfg hosts es ops → ((n : ℕ) (other : CommandId) → is_eq (compare_ids id other) ≡ false → HasAnswerAt n other hosts → HasAnswerAt n other hosts2) → (result ≡ None → hosts2 ≡ hosts) → IsKept cfg hosts2 es ops2
    took_kept kept others none =
        go result refl
      where
        left : (o : Outcome A) (taken : Option Bool) (answer : Option (Outcome A)) → Some o ≡ unless_taken taken answer → taken ≡ Some false
        left o (Some false) answer e = refl
        left o (Some true) answer e = absurd (cc)
        left o None answer e = absurd (cc)

        left_if : (o : Outcome A) (t : Bool) (taken : Option Bool) (answer : Option (Outcome A)) → Some o ≡ cond t (unless_taken taken answer) None → taken ≡ Some false
        left_if o true taken answer e = left o taken answer e
        left_if o false taken answer e = absurd (cc)

        go : (o : Option (Outcome A)) → result ≡ o → IsKept cfg hosts2 es ops2
        go None e =
            subst (λ os. IsKept cfg hosts2 es os) (sym (ops_then ∙ ap (λ x. cond (is_some x) (with_taken id ops) ops) e))
            (subst (λ (h : Hosts A). IsKept cfg h es ops) (sym (none e)) kept)
        go (Some o) e =
            subst (λ os. IsKept cfg hosts2 es os) (sym (ops_then ∙ ap (λ x. cond (is_some x) (with_taken id ops) ops) e))
            (kept_taken cfg hosts hosts2 es ops id kept same
            (left_if o (eqb node id.ticket.node) (lookup (same_id id) ops) (answer_at (log_of node (network_of hosts).logs) id) (sym e ∙ is))
            others)

  -- What a session is told

  pub replies_found : (hosts : Hosts A) (es : List (ℕ × Connection A)) (session : ℕ) (c : Connection A) → connection_of session es ≡ Some c
      → option_map (λ (x : Client A). x.replies) (client_of session (service_of hosts es).clients) ≡ Some c.replies
  replies_found hosts es session c found =
      ap (option_map (λ (x : Client A). x.replies)) (client_shown (network_of hosts).logs session es ∙ ap (option_map (λ x. shown (network_of hosts).logs (client_in x))) found)
      ∙ go (is_up (log_of c.node (network_of hosts).logs))
    where
      go : (t : Bool) → Some (cond t (client_in c) (standing_as (client_in c) (disconnected (client_in c).standing))).replies ≡ Some c.replies
      go true = refl
      go false = refl

  pub replies_absent : (hosts : Hosts A) (es : List (ℕ × Connection A)) (session : ℕ) → connection_of session es ≡ None
      → option_map (λ (x : Client A). x.replies) (client_of session (service_of hosts es).clients) ≡ None
  replies_absent hosts es session none =
      ap (option_map (λ (x : Client A). x.replies)) (client_shown (network_of hosts).logs session es ∙ ap (option_map (λ x. shown (network_of hosts).logs (client_in x))) none)

  pub kept_projected : (cfg : Config A) (hosts : Hosts A) (es : List (ℕ × Connection A)) (ops : List (CommandId × Bool)) (v : World A) → world_of cfg hosts es ops ≡ v → IsKept cfg hosts es ops
      → (session : ℕ) (c : Client A) → client_of session v.service.clients ≡ Some c → IsProjected v.config v.service c
  kept_projected cfg hosts es ops v is kept =
      subst (λ (x : World A). (session : ℕ) (c : Client A) → client_of session x.service.clients ≡ Some c → IsProjected x.config x.service c) is (reached_projected cfg (service_of hosts es) kept.reached)

-- the nodes of a service that a world has kept are those of a run of nodes
module _ {A : Type 0} where
  pub kept_nodes : (cfg : Config A) (hosts : Hosts A) (es : List (ℕ × Connection A)) (ops : List (CommandId × Bool)) (v : World A) →
      world_of cfg hosts es ops ≡ v → IsKept cfg hosts es ops → AreOfRun v.config v.service
  kept_nodes cfg hosts es ops v is kept =
      subst (λ (x : World A). AreOfRun x.config x.service) is (reached_nodes cfg (service_of hosts es) kept.reached)
