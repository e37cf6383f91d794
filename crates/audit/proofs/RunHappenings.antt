-- What each happening makes of a service, and when it can happen.
use Rattle.std.proofs.Common.{◌≡◌, ℕ, List, [], ◌∷◌, Bool, true, false, Some, None, refl, sym, ap, ◌∙◌, cond, eqb}
use Rattle.std.proofs.lemmas.Bool.{eqb-true, eq-eqb, ne_eqb, true≢false}
use Rattle.apop.specs.Stamp.{Stamp}
use Rattle.maildrop.specs.CommandId.{CommandId}
use Rattle.maildrop.specs.Ticket.{Ticket}
use Rattle.maildrop.specs.declared.op.Op.{Op}
use Rattle.maildrop.specs.declared.op.Op.TheVariants.{Free}
use Rattle.maildrop.specs.declared.outcome.Outcome.{Outcome}
use Rattle.node.specs.Nodes.{answered}
use Rattle.node.specs.declared.log.NodeLog.{NodeLog}
use Rattle.pop3_wire.specs.declared.line.Line.{Line}
use Rattle.session.specs.Session.{lock_due, free_of, by_line, by_answer}
use Rattle.session.specs.declared.state.State.{State}
use Rattle.session.specs.declared.state.Step.{Step}
use Rattle.session.specs.declared.state.Step.TheVariants.{Say, Ask, SayAndClose}
use Rattle.runs.specs.Clients.{Hears, Waits, Over, Client, new_client, standing_as, told, with_line, asking, client_of, with_client, without_node, all_without_node}
use Rattle.runs.specs.Messages.{log_of, is_up}
use Rattle.runs.specs.Refusals.{unless_down, node_refusal, connect_refusal, line_refusal, hangup_refusal, busy_without, collect_refusal, client_refusal, refusal_of}
use Rattle.runs.specs.Services.{Service, keeps, submits_for, if_up, if_served, connects, next_id, after_line, hears_line, by_turn, takes_answer, collects, gives_back, hangs_up, crashes, occurs}
use Rattle.runs.specs.declared.config.Config.{Config}
use Rattle.runs.specs.declared.event.Event.TheVariants as event

module _ {A : Type 0} where
  -- the client of each session, if that of one is put in
  at_inserted : (session s : ℕ) (d : Client A) (clients : List (ℕ × Client A)) → client_of s (with_client session d clients) ≡ cond (eqb s session) (Some d) (client_of s clients)
  at_inserted session s d [] = refl
  at_inserted session s d (e ∷ es) =
      go (eqb session e.0) refl (at_inserted session s d es)
    where
      same : session ≡ e.0 → (t : Bool) → eqb s e.0 ≡ t → cond t (Some d) (client_of s es) ≡ cond (eqb s session) (Some d) (cond t (Some e.1) (client_of s es))
      same q true f = rw (q, f) refl
      same q false f = rw (q, f) refl

      other : eqb session e.0 ≡ false → (t u : Bool) → eqb s e.0 ≡ t → eqb s session ≡ u → cond t (Some e.1) (cond u (Some d) (client_of s es)) ≡ cond u (Some d) (cond t (Some e.1) (client_of s es))
      other q true true f g = absurd (true≢false (sym (eq-eqb session e.0 (sym (eqb-true s session g) ∙ eqb-true s e.0 f)) ∙ q))
      other q true false f g = refl
      other q false true f g = refl
      other q false false f g = refl

      go : (t : Bool) → eqb session e.0 ≡ t → client_of s (with_client session d es) ≡ cond (eqb s session) (Some d) (client_of s es) →
          client_of s (cond t ((e.0, d) ∷ es) (e ∷ with_client session d es)) ≡ cond (eqb s session) (Some d) (cond (eqb s e.0) (Some e.1) (client_of s es))
      go true q h = same (eqb-true session e.0 q) (eqb s e.0) refl
      go false q h = ap (λ found. cond (eqb s e.0) (Some e.1) found) h ∙ other q (eqb s e.0) (eqb s session) refl refl

  pub client_put : (session : ℕ) (d : Client A) (clients : List (ℕ × Client A)) → client_of session (with_client session d clients) ≡ Some d
  client_put session d clients = at_inserted session session d clients ∙ rw (eq-eqb session session refl) refl

  pub client_other : (session s : ℕ) (d : Client A) (clients : List (ℕ × Client A)) → (s ≡ session → ⊥) → client_of s (with_client session d clients) ≡ client_of s clients
  client_other session s d clients ne = at_inserted session s d clients ∙ rw (ne_eqb s session ne) refl

  pub client_without : (node s : ℕ) (clients : List (ℕ × Client A)) (c : Client A) → client_of s clients ≡ Some c → client_of s (all_without_node node clients) ≡ Some (without_node node c)
  client_without node s [] c h = absurd (cc)
  client_without node s (e ∷ es) c h =
      go (eqb s e.0) (client_without node s es c) h
    where
      go : (t : Bool) → (client_of s es ≡ Some c → client_of s (all_without_node node es) ≡ Some (without_node node c)) → cond t (Some e.1) (client_of s es) ≡ Some c
          → cond t (Some (without_node node e.1)) (client_of s (all_without_node node es)) ≡ Some (without_node node c)
      go true ih q = let same : e.1 ≡ c = cc in ap (λ x. Some (without_node node x)) same
      go false ih q = ih q

  pub none_without : (node s : ℕ) (clients : List (ℕ × Client A)) → client_of s clients ≡ None → client_of s (all_without_node node clients) ≡ None
  none_without node s [] h = refl
  none_without node s (e ∷ es) h =
      go (eqb s e.0) (none_without node s es) h
    where
      go : (t : Bool) → (client_of s es ≡ None → client_of s (all_without_node node es) ≡ None) → cond t (Some e.1) (client_of s es) ≡ None
          → cond t (Some (without_node node e.1)) (client_of s (all_without_node node es)) ≡ None
      go true ih q = absurd (cc)
      go false ih q = ih q

  module _ (cfg : Config A) (v : Service A) (s : ℕ) where
    up_acts : (node : ℕ) (act : NodeLog A → Service A) (log : NodeLog A) → log_of node v.network.logs ≡ Some log → is_up (Some log) ≡ true → if_up v (log_of node v.network.logs) act ≡ act log
    up_acts node act log its up = ap (λ o. if_up v o act) its ∙ rw up refl

    pub connects_new : (node : ℕ) (stamp : Stamp) (log : NodeLog A) → log_of node v.network.logs ≡ Some log → is_up (Some log) ≡ true → client_of s v.clients ≡ None
        → occurs cfg v (event.Connect s node stamp) ≡ keeps v s (new_client node stamp)
    connects_new node stamp log its up none = up_acts node _ log its up ∙ ap (connects v s (new_client node stamp)) none

    -- what a node that is up takes
    pub node_can : (node : ℕ) (log : NodeLog A) → log_of node v.network.logs ≡ Some log → is_up (Some log) ≡ true → node_refusal v node ≡ None
    node_can node log its up = ap (λ o. unless_down o None) its ∙ rw up refl

    pub connect_can : (node : ℕ) (stamp : Stamp) (log : NodeLog A) → log_of node v.network.logs ≡ Some log → is_up (Some log) ≡ true → client_of s v.clients ≡ None → refusal_of v (event.Connect s node stamp) ≡ None
    connect_can node stamp log its up none = ap (connect_refusal v node) none ∙ node_can node log its up

    pub crashes_up : (node : ℕ) (log : NodeLog A) → log_of node v.network.logs ≡ Some log → is_up (Some log) ≡ true → occurs cfg v (event.Crash node) ≡ crashes v node log
    crashes_up node log its up = up_acts node (crashes v node) log its up

    module _ (c : Client A) (log : NodeLog A) (found : client_of s v.clients ≡ Some c) (its : log_of c.node v.network.logs ≡ Some log) (up : is_up (Some log) ≡ true) where
      served : (act : Client A → NodeLog A → Service A) → if_served v (client_of s v.clients) act ≡ act c log
      served act = ap (λ o. if_served v o act) found ∙ up_acts c.node (act c) log its up

      heard : (line : Line) (state : State A) (step : Step A) → c.standing ≡ Hears state → (by_line cfg.accounts c.stamp state line).step ≡ step
          → occurs cfg v (event.Line s line) ≡ after_line v s (with_line c line) log (by_line cfg.accounts c.stamp state line).state step
      heard line state step standing e =
          served (λ c log. hears_line cfg v s line c log c.standing) ∙ ap (hears_line cfg v s line c log) standing
          ∙ ap (after_line v s (with_line c line) log (by_line cfg.accounts c.stamp state line).state) e

      pub line_says : (line : Line) (state : State A) (bytes : List ℕ) → c.standing ≡ Hears state → (by_line cfg.accounts c.stamp state line).step ≡ Say bytes
          → occurs cfg v (event.Line s line) ≡ keeps v s (told (with_line c line) bytes (Hears (by_line cfg.accounts c.stamp state line).state))
      line_says line state bytes standing e = heard line state (Say bytes) standing e

      pub line_closes : (line : Line) (state : State A) (bytes : List ℕ) → c.standing ≡ Hears state → (by_line cfg.accounts c.stamp state line).step ≡ SayAndClose bytes
          → occurs cfg v (event.Line s line) ≡ keeps v s (told (with_line c line) bytes Over)
      line_closes line state bytes standing e = heard line state (SayAndClose bytes) standing e

      pub line_asks : (line : Line) (state : State A) (user : List ℕ) (op : Op A) → c.standing ≡ Hears state → (by_line cfg.accounts c.stamp state line).step ≡ Ask user op
          → occurs cfg v (event.Line s line) ≡ submits_for v s (asking (with_line c line) ((next_id log user).ticket) (Waits (by_line cfg.accounts c.stamp state line).state (next_id log user))) user op
      line_asks line state user op standing e = heard line state (Ask user op) standing e

      pub hangup_frees : (state : State A) (user : List ℕ) (lock : Ticket) → c.standing ≡ Hears state → lock_due state ≡ Some (user, lock)
          → occurs cfg v (event.Hangup s) ≡ submits_for v s (standing_as c Over) user (Free lock)
      hangup_frees state user lock standing due =
          served (λ c log. hangs_up v s c log c.standing) ∙ ap (hangs_up v s c log) standing
          ∙ ap (λ lock. gives_back v s (standing_as c Over) (free_of lock)) due

      pub answer_taken : (state : State A) (id : CommandId) (outcome : Outcome A) → c.standing ≡ Waits state id → answered log id ≡ Some outcome
          → occurs cfg v (event.Collect s) ≡ keeps v s (by_turn c (by_answer state id.ticket outcome))
      answer_taken state id outcome standing e =
          served (λ c log. collects v s c log c.standing) ∙ ap (collects v s c log) standing
          ∙ ap (takes_answer v s c state id.ticket) e

      -- and what its session takes
      pub line_can : (line : Line) (state : State A) → c.standing ≡ Hears state → refusal_of v (event.Line s line) ≡ None
      line_can line state standing =
          ap (λ o. client_refusal v o line_refusal) found ∙ ap (λ o. line_refusal o c.standing) its
          ∙ ap (line_refusal (Some log)) standing ∙ rw up refl

      pub hangup_can : (state : State A) → c.standing ≡ Hears state → refusal_of v (event.Hangup s) ≡ None
      hangup_can state standing =
          ap (λ o. client_refusal v o hangup_refusal) found ∙ ap (λ o. hangup_refusal o c.standing) its
          ∙ ap (hangup_refusal (Some log)) standing ∙ rw up refl

      pub collect_can : (state : State A) (id : CommandId) (outcome : Outcome A) → c.standing ≡ Waits state id → answered log id ≡ Some outcome → refusal_of v (event.Collect s) ≡ None
      collect_can state id outcome standing e =
          ap (λ o. client_refusal v o collect_refusal) found ∙ ap (λ o. collect_refusal o c.standing) its
          ∙ ap (collect_refusal (Some log)) standing ∙ ap (λ o. unless_down (Some log) (busy_without o)) e ∙ rw up refl
