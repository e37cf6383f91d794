-- How a service that takes an event follows its Mails and Breaks.
use Rattle.std.proofs.Common.{◌≡◌, ◌≢◌, ◌==◌, ℕ, zero, suc, ◌+◌, ◌≤◌, List, [], ◌∷◌, ◌++◌, Bool, true, false, Option, Some, None, refl, sym, ap, ◌∙◌, subst, inl, inr, arith, cond, length, replicate}
use Rattle.std.specs.List.{list_any}
use Rattle.std.specs.Prelude.{◌||◌, not, slice_get, Result, Ok, Err, OnOk, OnErr}
use Rattle.std.specs.Option.{option_map_or, option_or}
use Rattle.std.proofs.lemmas.Bool.{eqb-true}
use Rattle.std.proofs.lemmas.List.{append-nil}
use Rattle.maildrop.specs.CommandId.{CommandId}
use Rattle.maildrop.specs.Ticket.{Ticket}
use Rattle.maildrop.specs.declared.op.Op.{Op}
use Rattle.maildrop.specs.declared.op.Op.TheVariants as op
use Rattle.node.specs.Nodes.{logged}
use Rattle.node.specs.Replay.{is_crash, submits_of}
use Rattle.node.specs.Tickets.{ticket_at}
use Rattle.node.specs.declared.input.Input.TheVariants.{Submit}
use Rattle.node.specs.declared.log.NodeLog.{NodeLog}
use Rattle.node.specs.declared.log.Opening.{Opening}
use Rattle.node.proofs.Kept.{crash-push}
use Rattle.node.proofs.Replaying.{submits_of-push}
use Rattle.node.proofs.Submitting.{counts_own}
use Rattle.runs.specs.Interrupted.{IsInterrupted}
use Rattle.runs.specs.Messages.{Submits, is_up, log_of, new_logs}
use Rattle.runs.specs.Refusals.{step_refusal, unless_down, user_refusal}
use Rattle.runs.specs.Services.{Service, Occurs, at_nodes, next_id, occurs, opening_of}
use Rattle.runs.specs.Worlds.{World, last_ticket_in, new_world, operation_at, operation_of, stepped}
use Rattle.runs.specs.declared.config.Config.{Config}
use Rattle.runs.specs.declared.event.Event.{Event}
use Rattle.runs.specs.declared.event.Event.TheVariants as event
use Rattle.runs.specs.declared.refused.Refused.{Refused}
use Rattle.runs.specs.declared.refused.Refused.TheVariants.{Down}
use Rattle.runs.proofs.Logs.{some_same}
use Rattle.runs.proofs.Serving.{submitted_log}
use Rattle.world.specs.Values.{WorldValue, crash_of, known_ticket}
use Rattle.world.specs.Waiting.{Waiting, IsWatched, WatchesBut, only_at}
use Rattle.world.proofs.Keeping.{first_none}
use Rattle.world.proofs.Reached.{new_reached}
use Rattle.simulator.specs.Events.{operation_in}
use Rattle.simulator.specs.Following.{IsFollowed}
use Rattle.simulator.proofs.Arrivals.{Moves, interrupted_moves}
use Rattle.simulator.proofs.Following.{given_followed, happened_followed, zeros_at, zeros_count}

-- what happened wasn't refused
pub unrefused : {X : Type 0} (r : Result X Refused) (o : Option Refused) (x : X) → r ≡ Ok x → ((reason : Refused) → o ≡ Some reason → r ≡ Err reason) → o ≡ None
unrefused r None x is refused = refl
unrefused r (Some reason) x is refused = absurd (cc (sym is ∙ refused reason refl))

other_number : (m n : ℕ) → m ≢ n → (m == n) ≡ false
other_number m n apart =
    go (m == n) refl
  where
    go : (t : Bool) → (m == n) ≡ t → t ≡ false
    go true e = absurd (apart (eqb-true m n e))
    go false e = refl

-- there is a ticket of every number but 0
some_ticket : (me n : ℕ) → ticket_at me (suc n) ≡ Some (record { node = me; seq = suc n })
some_ticket me n = let other : suc n ≢ 0 = omega arith in ap (λ t. cond t None (Some (record { node = me; seq = suc n }))) (other_number (suc n) 0 other)

module _ {A : Type 0} where
  -- A service that begins

  new_count : (first : Opening A) (n m : ℕ) → length (new_logs first n m) ≡ m
  new_count first n zero = refl
  new_count first n (suc m) = let rest = new_count first (suc n) m in omega (arith, rest)

  pub begun_followed : (cfg : Config A) (w : World A) (ids : List CommandId) (waiting : Waiting) (nodes : ℕ) → w ≡ new_world cfg → ids ≡ [] → waiting.heard ≡ replicate nodes 0 → nodes ≡ cfg.cluster → cfg.cluster ≤ 9 → IsFollowed w ids waiting
  begun_followed cfg w ids waiting nodes is none heard count few =
      subst (λ (v : World A). IsFollowed v ids waiting) (sym is) (subst (λ xs. IsFollowed (new_world cfg) xs waiting) (sym none) (record {
        reached = new_reached cfg;
        all = refl;
        given = λ k id at. absurd (cc at);
        distinct = λ j k id at. absurd (cc at);
        nodes = size ∙ count ∙ sym (new_count (opening_of cfg) 1 cfg.cluster);
        few = omega (arith, size, count, few);
        within = λ node n log had at. let zero_heard : n ≡ 0 = zeros_at nodes node n (ap (λ hs. slice_get hs node) (sym heard) ∙ had) in omega (arith, zero_heard);
        watched = λ k id at. absurd (cc at);
        there = λ k id at. absurd (cc at);
      }))
    where
      size : length waiting.heard ≡ nodes
      size = ap length heard ∙ zeros_count nodes

  -- An event that is no Mail or Break, or is refused, or finds no memory

  same_world : (w later : World A) → later.config ≡ w.config → later.service ≡ w.service → later.operations ≡ w.operations → later ≡ w
  same_world w later config service operations i = record { config = config i; service = service i; operations = operations i }

  moved_followed : (w later : World A) (ids : List CommandId) (waiting : Waiting) → IsFollowed w ids waiting → later.config ≡ w.config → Moves w.config w.service later.service → later.operations ≡ w.operations → IsFollowed later ids waiting
  moved_followed w later ids waiting so config (inl service) operations = subst (λ (v : World A). IsFollowed v ids waiting) (sym (same_world w later config service operations)) so
  moved_followed w later ids waiting so config (inr one) operations = happened_followed w later ids waiting one.0 one.1 so config operations

  no_operation : (w : Service A) (e : Event A) → operation_in e ≡ None → operation_of w e ≡ []
  no_operation w (event.Connect session node stamp) none = refl
  no_operation w (event.Line session line) none = refl
  no_operation w (event.Hangup session) none = refl
  no_operation w (event.Collect session) none = refl
  no_operation w (event.Mail node user text key) none = absurd (cc none)
  no_operation w (event.Break node user) none = absurd (cc none)
  no_operation w (event.Arrive which) none = refl
  no_operation w (event.Tick node) none = refl
  no_operation w (event.Campaign node) none = refl
  no_operation w (event.Crash node) none = refl

  module _ (w later : World A) (e : Event A) (ids : List CommandId) (waiting : Waiting) (so : IsFollowed w ids waiting) (config : later.config ≡ w.config) where
    pub refused_followed : ((reason : Refused) → step_refusal w.config w.service e ≡ Some reason → later ≡ w) → (step_refusal w.config w.service e ≡ None → IsInterrupted w.config e w.service later.service)
        → later.operations ≡ w.operations → IsFollowed later ids waiting
    refused_followed unchanged cut operations =
        go (step_refusal w.config w.service e) refl
      where
        go : (o : Option Refused) → step_refusal w.config w.service e ≡ o → IsFollowed later ids waiting
        go (Some reason) is = subst (λ (v : World A). IsFollowed v ids waiting) (sym (unchanged reason is)) so
        go None is = moved_followed w later ids waiting so config (interrupted_moves w.config e w.service later.service (cut is)) operations

    pub stepped_followed : {X : Type 0} (r : Result X Refused) → operation_in e ≡ None → ((reason : Refused) → step_refusal w.config w.service e ≡ Some reason → later ≡ w) → OnOk r (later ≡ stepped w e)
        → (step_refusal w.config w.service e ≡ None → OnErr r (IsInterrupted w.config e w.service later.service)) → OnErr r (later.operations ≡ w.operations) → IsFollowed later ids waiting
    stepped_followed (Ok x) none unchanged ok cut operations =
        moved_followed w later ids waiting so config (inr (Occurs e, ap (λ (v : World A). v.service) ok))
        (ap (λ (v : World A). v.operations) ok ∙ ap (λ os. w.operations ++ os) (no_operation w.service e none) ∙ append-nil w.operations)
    stepped_followed (Err error) none unchanged ok cut operations = refused_followed unchanged cut operations

  -- A Mail or a Break

  pub record IsSubmitting (cfg : Config A) (w : Service A) (e : Event A) (at : ℕ × List ℕ) : Type 0 where
    pub op : Op A
    pub log : NodeLog A
    pub there : log_of at.0 w.network.logs ≡ Some log
    pub up : is_up (Some log) ≡ true
    pub submitted : occurs cfg w e ≡ at_nodes w (Submits at.0 at.1 op)
    pub operation : operation_of w e ≡ (next_id log at.1, false) ∷ []

  up_there : (o : Option (NodeLog A)) (rest : Option Refused) → option_or (unless_down o None) rest ≡ None → (log : NodeLog A) × (o ≡ Some log) × (is_up (Some log) ≡ true)
  up_there o rest none =
      go o refl (first_none (unless_down o None) rest none)
    where
      by : (log : NodeLog A) (t : Bool) → is_up (Some log) ≡ t → cond t None (Some Down) ≡ None → is_up (Some log) ≡ true
      by log true e f = e
      by log false e f = absurd (cc f)

      go : (p : Option (NodeLog A)) → o ≡ p → unless_down p None ≡ None → (log : NodeLog A) × (o ≡ Some log) × (is_up (Some log) ≡ true)
      go None e f = absurd (cc f)
      go (Some log) e f = (log, e, by log (is_up (Some log)) refl f)

  pub submitting : (cfg : Config A) (w : Service A) (e : Event A) (at : ℕ × List ℕ) → operation_in e ≡ Some at → step_refusal cfg w e ≡ None → IsSubmitting cfg w e at
  submitting cfg w (event.Mail node user text key) at is possible =
      let there = up_there (log_of node w.network.logs) (user_refusal cfg (event.Mail node user text key)) possible in
      subst (IsSubmitting cfg w (event.Mail node user text key)) (some_same (node, user) at is)
      (record { op = op.Mail text key; log = there.0; there = there.1; up = there.2; submitted = refl; operation = ap (λ o. operation_at o user) there.1 })
  submitting cfg w (event.Break node user) at is possible =
      let there = up_there (log_of node w.network.logs) (user_refusal cfg (event.Break node user)) possible in
      subst (IsSubmitting cfg w (event.Break node user)) (some_same (node, user) at is)
      (record { op = op.Break; log = there.0; there = there.1; up = there.2; submitted = refl; operation = ap (λ o. operation_at o user) there.1 })
  submitting cfg w (event.Connect session node stamp) at is possible = absurd (cc is)
  submitting cfg w (event.Line session line) at is possible = absurd (cc is)
  submitting cfg w (event.Hangup session) at is possible = absurd (cc is)
  submitting cfg w (event.Collect session) at is possible = absurd (cc is)
  submitting cfg w (event.Arrive which) at is possible = absurd (cc is)
  submitting cfg w (event.Tick node) at is possible = absurd (cc is)
  submitting cfg w (event.Campaign node) at is possible = absurd (cc is)
  submitting cfg w (event.Crash node) at is possible = absurd (cc is)

  module _ (w : World A) (v : WorldValue A) (e : Event A) (node : ℕ) (user : List ℕ) (s : IsSubmitting w.config w.service e (node, user)) (ok : v.world ≡ stepped w e) where
    -- the ticket that its node gave last is that of the command
    pub last_given : known_ticket v node user ≡ Some ((next_id s.log user).ticket)
    last_given =
        ap (λ o. cond (is_up o || option_map_or (λ c. c) (crash_of node v.crashed) false) (last_ticket_in o user) None) now_log
        ∙ ap (λ t. cond (t || option_map_or (λ c. c) (crash_of node v.crashed) false) (last_ticket_in (Some (logged s.log (Submit user s.op))) user) None) still_up
        ∙ ap (ticket_at s.log.opening.me) count ∙ some_ticket s.log.opening.me (submits_of user s.log.inputs) ∙ ap (λ n. Some (record { node = s.log.opening.me; seq = n })) next
      where
        next : suc (submits_of user s.log.inputs) ≡ 1 + submits_of user s.log.inputs
        next = omega arith

        now_log : log_of node v.world.service.network.logs ≡ Some (logged s.log (Submit user s.op))
        now_log = ap (λ (x : World A). log_of node x.service.network.logs) ok ∙ ap (λ (x : Service A). log_of node x.network.logs) s.submitted ∙ submitted_log w.service.network node s.log user s.op s.there s.up

        still_up : is_up (Some (logged s.log (Submit user s.op))) ≡ true
        still_up = ap not (crash-push s.log.inputs (Submit user s.op) (no_crash (list_any is_crash s.log.inputs) s.up))
          where
            no_crash : (t : Bool) → not t ≡ true → t ≡ false
            no_crash true e = absurd (cc e)
            no_crash false e = refl

        count : submits_of user (s.log.inputs ++ Submit user s.op ∷ []) ≡ suc (submits_of user s.log.inputs)
        count = let push = submits_of-push user s.log.inputs (Submit user s.op) in let own = counts_own user s.op in omega (arith, push, own)

    pub submitted_followed : (ids : List CommandId) (waiting waiting2 : Waiting) (ticket : Ticket) (id : CommandId) → IsFollowed w ids waiting → Some ticket ≡ known_ticket v node user → id ≡ record { user = user; ticket = ticket }
        → IsWatched waiting2 (length ids) id → WatchesBut (only_at (length ids)) waiting waiting2 → IsFollowed v.world (ids ++ id ∷ []) waiting2
    submitted_followed ids waiting waiting2 ticket id so known is own others =
        given_followed w v.world ids waiting waiting2 (Occurs e) node user s.op s.log id so (ap (λ (x : World A). x.config) ok) (ap (λ (x : World A). x.service) ok)
        (ap (λ (x : World A). x.service) ok ∙ s.submitted) s.there s.up (ap (λ (x : World A). x.operations) ok ∙ ap (λ os. w.operations ++ os) s.operation)
        (is ∙ ap (λ t. record { user = user; ticket = t }) (some_same ticket ((next_id s.log user).ticket) (known ∙ last_given))) own others
