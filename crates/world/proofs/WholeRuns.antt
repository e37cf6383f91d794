-- A service after a list of events.
use Rattle.std.proofs.Common.{◌≡◌, ◌≢◌, ◌⊎◌, ℕ, zero, suc, ◌+◌, ◌-◌, ◌<◌, List, [], ◌∷◌, ◌++◌, Bool, true, false, Option, Some, None, refl, sym, ap, ◌∙◌, subst, inl, inr, arith, cond, length, get_or, take, drop, set, map}
use Rattle.std.specs.Prelude.{Result, Ok, Err, IfOk, OnOk, slice_get}
use Rattle.std.specs.Option.{option_or, option_map}
use Rattle.std.proofs.lemmas.List.{map-append, length-set}
use Rattle.std.proofs.lemmas.Option.{slice_get-map}
use Rattle.std.proofs.lemmas.List.Sums.{fold-append}
use Rattle.maildrop.specs.CommandId.{CommandId}
use Rattle.maildrop.specs.declared.command.Command.{Command}
use Rattle.node.specs.Nodes.{logged}
use Rattle.node.specs.Replay.{replayed, sends_of}
use Rattle.node.specs.declared.input.Input.{Input}
use Rattle.node.specs.declared.input.Input.TheVariants.{Submit, Arrive, Tick, Campaign, Crash}
use Rattle.node.specs.declared.log.NodeLog.{NodeLog}
use Rattle.node.specs.declared.log.Opening.{Opening}
use Rattle.runs.specs.Clients.{Client, client_of, standing_as, disconnected}
use Rattle.world.specs.Connections.{service_of, client_in, shown}
use Rattle.world.specs.Hosts.{Hosts, network_of}
use Rattle.runs.specs.Messages.{Network, NodeEvent, Submits, Arrives, Ticks, Campaigns, Crashes, log_of, is_up, newly_sent, taken_by, given_input, with_arrival, message_arrives, after_node_event, after_node_events, new_logs, new_network}
use Rattle.runs.specs.Projection.{IsProjected}
use Rattle.runs.specs.Refusals.{step_refusal}
use Rattle.runs.specs.Services.{Service, Occurs, occurs, opening_of}
use Rattle.runs.specs.Settling.{ran, first_refusal, all_replies, all_performed}
use Rattle.runs.specs.Worlds.{World, IsReached, new_world, operation_of, performed_by, stepped}
use Rattle.runs.specs.declared.config.Config.{Config}
use Rattle.world.specs.declared.connection.Connection.{Connection}
use Rattle.runs.specs.declared.event.Event.{Event}
use Rattle.runs.specs.declared.refused.Refused.{Refused}
use Rattle.runs.specs.declared.refused.Refused.TheVariants.{Memory}
use Rattle.runs.specs.declared.sent.Sent.{Sent}
use Rattle.runs.proofs.Decisions.{reached_nodes}
use Rattle.runs.proofs.ServiceRuns.{AreOfRun}
use Rattle.runs.proofs.Serving.{every_service}
use Rattle.world.proofs.Reached.{new_reached, next_reached, reached_projected}

-- what holds whatever the answer is
pub always : {T E : Type 0} (result : Result T E) {P : Type 0} → P → OnOk result P
always (Ok value) p = p
always (Err error) p = tt

-- what follows of each answer follows of this one
pub answered_so : {T E : Type 0} (result : Result T E) (P Q : T → Type 0) → ((value : T) → P value → Q value) → IfOk result P → IfOk result Q
answered_so (Ok value) P Q become p = become value p
answered_so (Err error) P Q become p = tt

-- what is read of a list that has been read as far
pub map_same : {X : Type 0} (xs : List X) → map (λ x. x) xs ≡ xs
map_same [] = refl
map_same (x ∷ xs) = ap (λ ys. x ∷ ys) (map_same xs)

pub split_there : {X : Type 0} (all xs : List X) (x : X) → xs ≡ take (length xs) all → length xs < length all → x ≡ get_or all (length xs) x → all ≡ xs ++ x ∷ drop (suc (length xs)) all
split_there [] xs x front within is = absurd (omega arith)
split_there (y ∷ ys) [] x front within is = ap (λ z. z ∷ ys) (sym is)
split_there (y ∷ ys) (z ∷ zs) x front within is =
    let first : z ≡ y = cc in
    let rest : zs ≡ take (length zs) ys = cc in
    ap (λ w. y ∷ w) (split_there ys zs x rest (omega arith) is) ∙ ap (λ w. w ∷ (zs ++ x ∷ drop (suc (length zs)) ys)) (sym first)

both_none : {X : Type 0} (a b : Option X) → option_or a b ≡ None → (a ≡ None) × (b ≡ None)
both_none None b e = (refl, e)
both_none (Some x) b e = absurd (cc)

-- an event that happened wasn't refused, and one that didn't was, or found no memory
pub none_refused : {X : Type 0} (o : Option Refused) (r : Result X Refused) (x : X) → ((reason : Refused) → o ≡ Some reason → r ≡ Err reason) → r ≡ Ok x → o ≡ None
none_refused None r x told is = refl
none_refused (Some reason) r x told is = absurd (cc (told reason refl, is))

pub cause : {X : Type 0} (o all : Option Refused) (r : Result X Refused) (error : Refused) → r ≡ Err error → ((reason : Refused) → o ≡ Some reason → r ≡ Err reason) → (o ≡ None → error ≡ Memory)
    → ((reason : Refused) → o ≡ Some reason → all ≡ Some reason) → (error ≡ Memory) ⊎ (all ≡ Some error)
cause None all r error is told memory first = inl (memory refl)
cause (Some reason) all r error is told memory first = let same : reason ≡ error = cc (told reason refl, is) in inr (first reason refl ∙ ap Some same)

take_next : {X : Type 0} (xs : List X) (k : ℕ) (x : X) → slice_get xs k ≡ Some x → take (suc k) xs ≡ take k xs ++ x ∷ []
take_next [] k x at = absurd (cc)
take_next (y ∷ xs) zero x at = let same : y ≡ x = cc in ap (λ z. z ∷ []) same
take_next (y ∷ xs) (suc k) x at = ap (λ zs. y ∷ zs) (take_next xs k x at)

-- one more of a list that is gone through
pub pushed_next : {X Y : Type 0} (f : X → Y) (items more : List X) (x : X) (ys : List Y) (k : ℕ) (y : Y) → more ≡ items ++ x ∷ [] → map f items ≡ take k ys → f x ≡ y → slice_get ys k ≡ Some y
    → map f more ≡ take (k + 1) ys
pushed_next f items more x ys k y pushed front is at =
    let next : suc k ≡ k + 1 = omega arith in
    ap (map f) pushed ∙ map-append f items (x ∷ []) ∙ ap (λ zs. zs ++ f x ∷ []) front ∙ ap (λ z. take k ys ++ z ∷ []) is ∙ sym (take_next ys k y at) ∙ ap (λ n. take n ys) next

module _ {A : Type 0} where
  pub ran_more : (w : World A) (es : List (Event A)) (e : Event A) → ran w (es ++ e ∷ []) ≡ stepped (ran w es) e
  ran_more w es e = fold-append stepped w es (e ∷ [])

  pub none_more : (w : World A) (es : List (Event A)) (e : Event A) → first_refusal w es ≡ None → step_refusal (ran w es).config (ran w es).service e ≡ None → first_refusal w (es ++ e ∷ []) ≡ None
  none_more w [] e none here = ap (λ o. option_or o None) here
  none_more w (x ∷ es) e none here =
      let both = both_none (step_refusal w.config w.service x) (first_refusal (stepped w x) es) none in
      ap (λ o. option_or o (first_refusal (stepped w x) (es ++ e ∷ []))) both.0 ∙ none_more (stepped w x) es e both.1 here

  pub refused_there : (w : World A) (es rest : List (Event A)) (e : Event A) (r : Refused) → first_refusal w es ≡ None → step_refusal (ran w es).config (ran w es).service e ≡ Some r
      → first_refusal w (es ++ e ∷ rest) ≡ Some r
  refused_there w [] rest e r none here = ap (λ o. option_or o (first_refusal (stepped w e) rest)) here
  refused_there w (x ∷ es) rest e r none here =
      let both = both_none (step_refusal w.config w.service x) (first_refusal (stepped w x) es) none in
      ap (λ o. option_or o (first_refusal (stepped w x) (es ++ e ∷ rest))) both.0 ∙ refused_there (stepped w x) es rest e r both.1 here

  ran_reached : (cfg : Config A) (es : List (Event A)) (s : Service A) (operations : List (CommandId × Bool)) → IsReached cfg s
      → IsReached cfg (ran (record { config = cfg; service = s; operations = operations }) es).service
  ran_reached cfg [] s operations r = r
  ran_reached cfg (e ∷ es) s operations r = ran_reached cfg es (occurs cfg s e) (operations ++ operation_of s e) (next_reached cfg s (Occurs e) r)

  pub ran_projected : (cfg : Config A) (es : List (Event A)) (session : ℕ) (c : Client A) → client_of session (ran (new_world cfg) es).service.clients ≡ Some c → IsProjected cfg (ran (new_world cfg) es).service c
  ran_projected cfg es session c at = reached_projected cfg (ran (new_world cfg) es).service (ran_reached cfg es (new_world cfg).service [] (new_reached cfg)) session c at

  pub ran_nodes : (cfg : Config A) (es : List (Event A)) → AreOfRun cfg (ran (new_world cfg) es).service
  ran_nodes cfg es = reached_nodes cfg (ran (new_world cfg) es).service (ran_reached cfg es (new_world cfg).service [] (new_reached cfg))

  -- the nodes stay as many as they are
  takes_count : (w : Network A) (n : ℕ) (i : Input A) → length (given_input w n i).logs ≡ length w.logs
  takes_count w n i =
      go (log_of n w.logs)
    where
      up : (log : NodeLog A) (t : Bool) → length (cond t (record { logs = set w.logs (n - 1) (logged log i); sent = w.sent ++ newly_sent (sends_of log i) }) w).logs ≡ length w.logs
      up log true = length-set w.logs (n - 1) (logged log i)
      up log false = refl

      go : (o : Option (NodeLog A)) → length (taken_by w n i o).logs ≡ length w.logs
      go None = refl
      go (Some log) = up log (is_up (Some log))

  arrives_count : (w : Network A) (k : ℕ) (o : Option (Sent A)) → length (message_arrives w k o).logs ≡ length w.logs
  arrives_count w k None = refl
  arrives_count w k (Some s) =
      go (is_up (log_of s.envelope.to w.logs))
    where
      go : (t : Bool) → length (cond t (given_input (record { logs = w.logs; sent = with_arrival k w.sent }) s.envelope.to (Arrive s.envelope)) w).logs ≡ length w.logs
      go true = takes_count (record { logs = w.logs; sent = with_arrival k w.sent }) s.envelope.to (Arrive s.envelope)
      go false = refl

  happens_count : (w : Network A) (e : NodeEvent A) → length (after_node_event w e).logs ≡ length w.logs
  happens_count w (Submits n name op) = takes_count w n (Submit name op)
  happens_count w (Arrives k) = arrives_count w k (slice_get w.sent k)
  happens_count w (Ticks n) = takes_count w n Tick
  happens_count w (Campaigns n) = takes_count w n Campaign
  happens_count w (Crashes n) = takes_count w n Crash

  pub happen_count : (w : Network A) (es : List (NodeEvent A)) → length (after_node_events w es).logs ≡ length w.logs
  happen_count w [] = refl
  happen_count w (e ∷ es) = happen_count (after_node_event w e) es ∙ happens_count w e

  new_count : (first : Opening A) (n m : ℕ) → length (new_logs first n m) ≡ m
  new_count first n zero = refl
  new_count first n (suc m) = ap suc (new_count first (suc n) m)

  reached_count : (cfg : Config A) (w : Service A) → IsReached cfg w → length w.network.logs ≡ cfg.cluster
  reached_count cfg w r =
      let nodes = (every_service cfg r.0).nodes in
      ap (λ (s : Service A). length s.network.logs) (sym r.1) ∙ ap (λ (n : Network A). length n.logs) nodes.1 ∙ happen_count (new_network (opening_of cfg)) nodes.0 ∙ new_count (opening_of cfg) 1 cfg.cluster

  pub ran_count : (cfg : Config A) (es : List (Event A)) → length (ran (new_world cfg) es).service.network.logs ≡ cfg.cluster
  ran_count cfg es = reached_count cfg (ran (new_world cfg) es).service (ran_reached cfg es (new_world cfg).service [] (new_reached cfg))

  -- what stands at a place of what a service has brought
  pub performed_there : (w : Service A) (place node : ℕ) (p : List (ℕ × Command A)) → node ≡ place + 1 → performed_by w node ≡ Some p → slice_get (all_performed w) place ≡ Some p
  performed_there w place zero p e at = absurd (let no : place + 1 ≢ 0 = omega arith in no (sym e))
  performed_there w place (suc n) p e at =
      let same : n ≡ place = omega arith in
      slice_get-map (λ (log : NodeLog A). (replayed log).replica.performed) w.network.logs place
      ∙ subst (λ k. option_map (λ (log : NodeLog A). (replayed log).replica.performed) (slice_get w.network.logs k) ≡ Some p) same at

  shown_replies : (logs : List (NodeLog A)) (c : Client A) → (shown logs c).replies ≡ c.replies
  shown_replies logs c =
      go (is_up (log_of c.node logs))
    where
      go : (t : Bool) → (cond t c (standing_as c (disconnected c.standing))).replies ≡ c.replies
      go true = refl
      go false = refl

  pub replies_there : (hosts : Hosts A) (es : List (ℕ × Connection A)) (w : Service A) (place session : ℕ) (c : Connection A) → service_of hosts es ≡ w → slice_get es place ≡ Some (session, c)
      → slice_get (all_replies w) place ≡ Some (session, c.replies)
  replies_there hosts es w place session c is at =
      ap (λ s. slice_get (all_replies s) place) (sym is)
      ∙ slice_get-map (λ (e : ℕ × Client A). (e.0, e.1.replies)) (service_of hosts es).clients place
      ∙ ap (option_map (λ (e : ℕ × Client A). (e.0, e.1.replies))) (slice_get-map (λ (e : ℕ × Connection A). (e.0, shown (network_of hosts).logs (client_in e.1))) es place)
      ∙ ap (λ o. option_map (λ (e : ℕ × Client A). (e.0, e.1.replies)) (option_map (λ (e : ℕ × Connection A). (e.0, shown (network_of hosts).logs (client_in e.1))) o)) at
      ∙ ap (λ r. Some (session, r)) (shown_replies (network_of hosts).logs (client_in c))
