-- The answer that a session awaits fits what it asked for.
use Rattle.std.proofs.Common.{◌≡◌, ℕ, Bool, true, false, List, [], ◌∷◌, ◌++◌, Some, refl, sym, ap, ◌∙◌, subst, cond, map, inl, inr, ⊎_elim}
use Rattle.std.specs.Prelude.{is_some}
use Rattle.std.specs.Str.{bytes_eq}
use Rattle.ballot.specs.Lists.{IsIn}
use Rattle.maildrop.specs.CommandId.{CommandId}
use Rattle.maildrop.specs.Limits.{Limits}
use Rattle.maildrop.specs.Kept.{KeptTable}
use Rattle.maildrop.specs.Maildrop.{Maildrop, effect_of}
use Rattle.maildrop.specs.Office.{opened_user, maildrop_of, maildrop_after_all, outcome_at}
use Rattle.maildrop.specs.Ticket.{Ticket}
use Rattle.maildrop.specs.declared.command.Command.{Command}
use Rattle.maildrop.specs.declared.outcome.Outcome.{Outcome}
use Rattle.apop.specs.Accounts.{Account, name_of}
use Rattle.apop.specs.Login.{account_named}
use Rattle.node.specs.Nodes.{answered}
use Rattle.node.specs.declared.log.NodeLog.{NodeLog}
use Rattle.session.specs.Asking.{AreFor, AreForOneUser}
use Rattle.session.specs.Conversation.{Request}
use Rattle.session.specs.Session.{by_answer}
use Rattle.session.specs.declared.state.State.{State}
use Rattle.session.proofs.Users.{user_asked}
use Rattle.session.proofs.Calls.{talk_conversation}
use Rattle.runs.specs.Clients.{Client, Waits, client_of}
use Rattle.node.specs.Submits.{IsSubmitted}
use Rattle.runs.specs.Messages.{log_of, network_of}
use Rattle.runs.specs.Projection.{decided, AreSubmitted}
use Rattle.node.specs.Outcomes.{IsOutcomeOf, first_maildrop, own_of}
use Rattle.runs.specs.Runs.{order_of}
use Rattle.runs.specs.Services.{Service, Happening, opening_of, run_of}
use Rattle.runs.specs.declared.config.Config.{Config}
use Rattle.runs.proofs.Fitting.{outcome_fits}
use Rattle.runs.proofs.Logs.{some_same}
use Rattle.runs.proofs.AsAsked.{one_as_asked}
use Rattle.runs.proofs.Outcomes.{answer_own}
use Rattle.runs.proofs.ServiceRuns.{AreOfRun}
use Rattle.runs.proofs.Serving.{every_service}
use Rattle.runs.proofs.Sessions.{IsServed, Stands, AsksLast, tickets_in, front_for}

in_middle : {X : Type 0} (before after : List X) (x : X) → IsIn x (before ++ x ∷ after)
in_middle [] after x = inl refl
in_middle (y ∷ before) after x = inr (in_middle before after x)

module _ {A : Type 0} where
  -- who has an account has a maildrop
  has_maildrop : (limits : Limits) (keys : ℕ) (kept : KeptTable A) (accounts : List Account) (name : List ℕ) → is_some (account_named accounts name) ≡ true → (maildrop : Maildrop A) × (maildrop_of name (map (opened_user limits keys kept) (map name_of accounts)) ≡ Some maildrop)
  has_maildrop limits keys kept [] name known = absurd (cc)
  has_maildrop limits keys kept (a ∷ accounts) name known =
      go (bytes_eq a.name name) known (has_maildrop limits keys kept accounts name)
    where
      go : (t : Bool) → is_some (cond t (Some a) (account_named accounts name)) ≡ true →
          (is_some (account_named accounts name) ≡ true → (maildrop : Maildrop A) × (maildrop_of name (map (opened_user limits keys kept) (map name_of accounts)) ≡ Some maildrop)) →
          (maildrop : Maildrop A) × (cond t (Some (opened_user {A = A} limits keys kept a.name).maildrop) (maildrop_of name (map (opened_user limits keys kept) (map name_of accounts))) ≡ Some maildrop)
      go true k ih = ((opened_user limits keys kept a.name).maildrop, refl)
      go false k ih = ih k

  -- and keeps it
  keeps_maildrop : (maildrop : Maildrop A) (commands : List (Command A)) → (later : Maildrop A) × (maildrop_after_all (Some maildrop) commands ≡ Some later)
  keeps_maildrop maildrop [] = (maildrop, refl)
  keeps_maildrop maildrop (c ∷ commands) = keeps_maildrop ((effect_of maildrop c.ticket c.op).after) commands

  -- the last ticket is that of the last that was asked for
  last_submitted : (log : NodeLog A) (rs : List (Request A)) (r : Request A) (ts : List Ticket) (t : Ticket) → AreSubmitted log (rs ++ r ∷ []) (ts ++ t ∷ []) → IsSubmitted log (record { user = r.user; ticket = t }) r.op
  last_submitted log [] r [] t h = h.0
  last_submitted log [] r (x ∷ []) t h = absurd h.1
  last_submitted log [] r (x ∷ (y ∷ ts)) t h = absurd h.1
  last_submitted log (q ∷ []) r [] t h = absurd h.1
  last_submitted log (q ∷ (s ∷ rs)) r [] t h = absurd h.1
  last_submitted log (q ∷ rs) r (x ∷ ts) t h = last_submitted log rs r ts t h.1

  -- the user of what was asked for has an account
  last_known : (accounts : List Account) (asked before : List (Request A)) (last : Request A) → asked ≡ before ++ last ∷ [] → AreForOneUser accounts asked → is_some (account_named accounts last.user) ≡ true
  last_known accounts asked before last e h =
      ⊎_elim
      (λ (none : asked ≡ []). absurd (not_none before (sym e ∙ none)))
      (λ found. subst (λ u. is_some (account_named accounts u) ≡ true) (sym (front_for found.0 before last (subst (AreFor found.0) e found.2)).1) found.1)
      h
    where
      not_none : (xs : List (Request A)) → xs ++ last ∷ [] ≡ [] → ⊥
      not_none [] q = absurd (cc)
      not_none (x ∷ xs) q = absurd (cc)

  module _ (cfg : Config A) (w : Service A) (run : AreOfRun cfg w) (c : Client A) (log : NodeLog A) (at : log_of c.node w.network.logs ≡ Some log) (s : IsServed cfg (decided cfg w) log c)
      (state : State A) (id : CommandId) (waits : Stands s.talk c.tickets (Waits state id)) (o : Outcome A) (there : answered log id ≡ Some o) where
    its_log : log_of c.node (network_of (opening_of cfg) run.0).logs ≡ Some log
    its_log = ap (λ n. log_of c.node n.logs) (sym run.1) ∙ at

    fits : is_some (by_answer state id.ticket o) ≡ true
    fits =
        let first = opening_of cfg in
        let asks : AsksLast s.talk id state = waits.3 in
        let outcome : IsOutcomeOf first (order_of first run.0) id o = answer_own first run.0 c.node log id o its_log there in
        let d = outcome.command in
        let asked : AreSubmitted log (asks.before ++ asks.last ∷ []) (tickets_in s.talk.answers ++ id.ticket ∷ []) =
        subst (λ rs. AreSubmitted log rs (tickets_in s.talk.answers ++ id.ticket ∷ [])) asks.asked (subst (AreSubmitted log s.talk.asked) (sym waits.1) s.submitted) in
        let submitted = last_submitted log asks.before asks.last (tickets_in s.talk.answers) id.ticket asked in
        let user : d.user ≡ asks.last.user = ap (λ x. x.user) outcome.its ∙ sym asks.user in
        let among : IsIn (outcome.slot, d) (order_of first run.0) = subst (IsIn (outcome.slot, d)) (sym outcome.order) (in_middle outcome.before outcome.after (outcome.slot, d)) in
        let op : d.op ≡ asks.last.op =
        one_as_asked first run.0 c.node log its_log (record { user = asks.last.user; ticket = id.ticket }) asks.last.op d outcome.slot among submitted (λ i. record { user = user i; ticket = ap (λ x. x.ticket) outcome.its i }) in
        let one_user : AreForOneUser cfg.accounts s.talk.asked = subst (AreForOneUser cfg.accounts) (ap (λ q. q.asked) (talk_conversation cfg.accounts c.stamp s.talk s.is)) (user_asked cfg.accounts c.stamp s.talk.lines s.talk.answers) in
        let known : is_some (account_named cfg.accounts d.user) ≡ true = subst (λ u. is_some (account_named cfg.accounts u) ≡ true) (sym user) (last_known cfg.accounts s.talk.asked asks.before asks.last asks.asked one_user) in
        let begins = has_maildrop cfg.limits cfg.keys cfg.kept cfg.accounts d.user known in
        let now = keeps_maildrop begins.0 (own_of d.user outcome.before) in
        let maildrop : maildrop_after_all (first_maildrop first d.user) (own_of d.user outcome.before) ≡ Some now.0 = ap (λ m. maildrop_after_all m (own_of d.user outcome.before)) begins.1 ∙ now.1 in
        let is : o ≡ (effect_of now.0 d.ticket asks.last.op).outcome = outcome.outcome ∙ ap (λ m. outcome_at m d) maildrop ∙ ap (λ op. (effect_of now.0 d.ticket op).outcome) op in
        subst (λ x. is_some (by_answer state id.ticket x) ≡ true) (sym is) (outcome_fits asks.last.op state now.0 id.ticket d.ticket asks.fits)

  pub every_answer_fits : (cfg : Config A) (happenings : List (Happening A)) (session : ℕ) (c : Client A) (log : NodeLog A) (state : State A) (id : CommandId) (answer : Outcome A) →
      client_of session (run_of cfg happenings).clients ≡ Some c → c.standing ≡ Waits state id → log_of c.node (run_of cfg happenings).network.logs ≡ Some log → answered log id ≡ Some answer →
      is_some (by_answer state id.ticket answer) ≡ true
  every_answer_fits cfg happenings session c log state id answer its waits at there =
      let sound = every_service cfg happenings in
      let x = sound.clients session c its in
      let same : x.0 ≡ log = some_same x.0 log (sym x.1 ∙ at) in
      let s : IsServed cfg (decided cfg (run_of cfg happenings)) log c = subst (λ l. IsServed cfg (decided cfg (run_of cfg happenings)) l c) same x.2 in
      fits cfg (run_of cfg happenings) sound.nodes c log at s state id (subst (Stands s.talk c.tickets) waits s.stands) answer there
