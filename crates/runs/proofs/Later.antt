-- What clients sent and were told stays.
use Rattle.std.proofs.Common.{◌≡◌, ℕ, List, [], ◌∷◌, ◌++◌, Bool, true, false, Option, Some, None, refl, sym, ap, ◌∙◌, subst, cond, eqb}
use Rattle.std.specs.Prelude.{fold}
use Rattle.std.proofs.lemmas.Bool.{eqb-true, eq-eqb}
use Rattle.std.proofs.lemmas.List.Sums.{fold-append}
use Rattle.maildrop.specs.Ticket.{Ticket}
use Rattle.maildrop.specs.declared.op.Op.{Op}
use Rattle.maildrop.specs.declared.outcome.Outcome.{Outcome}
use Rattle.pop3_wire.specs.declared.line.Line.{Line}
use Rattle.node.specs.Nodes.{answered}
use Rattle.node.specs.declared.log.NodeLog.{NodeLog}
use Rattle.session.specs.Session.{by_line, by_answer, lock_due, lock_got, free_of}
use Rattle.session.specs.declared.state.State.{State}
use Rattle.session.specs.declared.state.Step.{Step}
use Rattle.session.specs.declared.state.Step.TheVariants.{Say, Ask, SayAndClose}
use Rattle.session.specs.declared.state.Turn.{Turn}
use Rattle.runs.specs.Clients.{Standing, Hears, Waits, Failed, Disconnected, Over, Client, IsLater, new_client, standing_as, told, with_line, asking, disconnected, client_of, with_client, without_node, all_without_node}
use Rattle.runs.specs.Messages.{log_of, is_up}
use Rattle.runs.specs.Services.{Service, Happening, Occurs, Lost, new_service, keeps, next_id, if_up, if_served, connects, after_line, hears_line, after_answer, by_turn, takes_answer, collects, gives_back, hangs_up, loses_answer, is_lost, occurs, happens, run_of}
use Rattle.runs.specs.declared.config.Config.{Config}
use Rattle.runs.specs.declared.event.Event.{Event}
use Rattle.runs.specs.declared.event.Event.TheVariants as event
use Rattle.runs.proofs.Prefixes.{all_of, front_of, prefix_on}

module _ {A : Type 0} where
  itself : (c : Client A) → IsLater c c
  itself c = record { node = refl; stamp = refl; lines = all_of c.lines; tickets = all_of c.tickets; replies = all_of c.replies }

  later_on : (c d e : Client A) → IsLater c d → IsLater d e → IsLater c e
  later_on c d e h k = record {
    node = k.node ∙ h.node;
    stamp = k.stamp ∙ h.stamp;
    lines = prefix_on c.lines d.lines e.lines h.lines k.lines;
    tickets = prefix_on c.tickets d.tickets e.tickets h.tickets k.tickets;
    replies = prefix_on c.replies d.replies e.replies h.replies k.replies;
  }

  stands_later : (c : Client A) (standing : Standing A) → IsLater c (standing_as c standing)
  stands_later c standing = record { node = refl; stamp = refl; lines = all_of c.lines; tickets = all_of c.tickets; replies = all_of c.replies }

  told_later : (c : Client A) (bytes : List ℕ) (standing : Standing A) → IsLater c (told c bytes standing)
  told_later c bytes standing = record { node = refl; stamp = refl; lines = all_of c.lines; tickets = all_of c.tickets; replies = front_of c.replies bytes }

  line_later : (c : Client A) (line : Line) → IsLater c (with_line c line)
  line_later c line = record { node = refl; stamp = refl; lines = front_of c.lines (line ∷ []); tickets = all_of c.tickets; replies = all_of c.replies }

  asking_later : (c : Client A) (ticket : Ticket) (standing : Standing A) → IsLater c (asking c ticket standing)
  asking_later c ticket standing = record { node = refl; stamp = refl; lines = all_of c.lines; tickets = front_of c.tickets (ticket ∷ []); replies = all_of c.replies }

  turn_later : (c : Client A) (turn : Option (Turn A)) → IsLater c (by_turn c turn)
  turn_later c None = stands_later c Over
  turn_later c (Some turn) =
      go turn.step
    where
      go : (step : Step A) → IsLater c (after_answer c turn.state step)
      go (Say bytes) = told_later c bytes (Hears turn.state)
      go (SayAndClose bytes) = told_later c bytes Over
      go (Ask user op) = itself c

  without_later : (c : Client A) (node : ℕ) → IsLater c (without_node node c)
  without_later c node =
      go (eqb c.node node)
    where
      go : (t : Bool) → IsLater c (cond t (standing_as c (disconnected c.standing)) c)
      go true = stands_later c (disconnected c.standing)
      go false = itself c

  -- the client of each session, if that of one is put in
  pub at_inserted : (session s : ℕ) (d : Client A) (clients : List (ℕ × Client A)) → client_of s (with_client session d clients) ≡ cond (eqb s session) (Some d) (client_of s clients)
  at_inserted session s d [] = refl
  at_inserted session s d (e ∷ es) =
      go (eqb session e.0) refl (at_inserted session s d es)
    where
      same : session ≡ e.0 → (t : Bool) → eqb s e.0 ≡ t → cond t (Some d) (client_of s es) ≡ cond (eqb s session) (Some d) (cond t (Some e.1) (client_of s es))
      same q true f = rw (q, f) refl
      same q false f = rw (q, f) refl

      other : eqb session e.0 ≡ false → (t u : Bool) → eqb s e.0 ≡ t → eqb s session ≡ u → cond t (Some e.1) (cond u (Some d) (client_of s es)) ≡ cond u (Some d) (cond t (Some e.1) (client_of s es))
      other q true true f g =
          let is : session ≡ e.0 = sym (eqb-true s session g) ∙ eqb-true s e.0 f in
          let yes : eqb session e.0 ≡ true = eq-eqb session e.0 is in
          absurd (cc)
      other q true false f g = refl
      other q false true f g = refl
      other q false false f g = refl

      go : (t : Bool) → eqb session e.0 ≡ t → client_of s (with_client session d es) ≡ cond (eqb s session) (Some d) (client_of s es) →
          client_of s (cond t ((e.0, d) ∷ es) (e ∷ with_client session d es)) ≡ cond (eqb s session) (Some d) (cond (eqb s e.0) (Some e.1) (client_of s es))
      go true q h = same (eqb-true session e.0 q) (eqb s e.0) refl
      go false q h = ap (λ found. cond (eqb s e.0) (Some e.1) found) h ∙ other q (eqb s e.0) (eqb s session) refl refl

  -- each client of the first service is in the second one, later
  abbrev Keeps : Service A → Service A → Type 0
  Keeps w next = (s : ℕ) (c : Client A) → client_of s w.clients ≡ Some c → (later : Client A) × (client_of s next.clients ≡ Some later) × IsLater c later

  all_same : (w : Service A) → Keeps w w
  all_same w s c at = (c, at, itself c)

  module _ (w : Service A) where
    -- a client that is there becomes a later one
    put_in : (session : ℕ) (c d : Client A) → client_of session w.clients ≡ Some c → IsLater c d → (clients : List (ℕ × Client A)) → clients ≡ w.clients →
        (s : ℕ) (x : Client A) → client_of s w.clients ≡ Some x → (later : Client A) × (client_of s (with_client session d clients) ≡ Some later) × IsLater x later
    put_in session c d its is clients same s x at =
        go (eqb s session) refl
      where
        go : (t : Bool) → eqb s session ≡ t → (later : Client A) × (client_of s (with_client session d clients) ≡ Some later) × IsLater x later
        go true q =
            let found : Some c ≡ Some x = sym its ∙ ap (λ n. client_of n w.clients) (sym (eqb-true s session q)) ∙ at in
            let one : c ≡ x = cc in (
              d,
              at_inserted session s d clients ∙ rw q refl,
              subst (λ y. IsLater y d) one is,
            )
        go false q = (x, at_inserted session s d clients ∙ rw q (ap (client_of s) same ∙ at), itself x)

    keeps_later : (session : ℕ) (c d : Client A) → client_of session w.clients ≡ Some c → IsLater c d → Keeps w (keeps w session d)
    keeps_later session c d its is = put_in session c d its is w.clients refl

    up_later : (o : Option (NodeLog A)) (act : NodeLog A → Service A) → ((log : NodeLog A) → Keeps w (act log)) → Keeps w (if_up w o act)
    up_later None act h = all_same w
    up_later (Some log) act h =
        go (is_up (Some log))
      where
        go : (t : Bool) → Keeps w (cond t (act log) w)
        go true = h log
        go false = all_same w

    served_later : (o : Option (Client A)) (act : Client A → NodeLog A → Service A) → ((c : Client A) (log : NodeLog A) → o ≡ Some c → Keeps w (act c log)) → Keeps w (if_served w o act)
    served_later None act h = all_same w
    served_later (Some c) act h = up_later (log_of c.node w.network.logs) (act c) (λ log. h c log refl)

    connects_later : (session : ℕ) (d : Client A) (known : Option (Client A)) → client_of session w.clients ≡ known → Keeps w (connects w session d known)
    connects_later session d (Some c) its s x at = all_same w s x at
    connects_later session d None its s x at =
        go (eqb s session) refl
      where
        go : (t : Bool) → eqb s session ≡ t → (later : Client A) × (client_of s (with_client session d w.clients) ≡ Some later) × IsLater x later
        go true q =
            let none : None ≡ Some x = sym its ∙ ap (λ n. client_of n w.clients) (sym (eqb-true s session q)) ∙ at in
            absurd (cc)
        go false q = (x, at_inserted session s d w.clients ∙ rw q at, itself x)

    crashes_later : (node : ℕ) (clients : List (ℕ × Client A)) (s : ℕ) (x : Client A) → client_of s clients ≡ Some x → (later : Client A) × (client_of s (all_without_node node clients) ≡ Some later) × IsLater x later
    crashes_later node [] s x at = absurd (cc)
    crashes_later node (e ∷ es) s x at =
        go (eqb s e.0) at (crashes_later node es s x)
      where
        go : (t : Bool) → cond t (Some e.1) (client_of s es) ≡ Some x → (client_of s es ≡ Some x → (later : Client A) × (client_of s (all_without_node node es) ≡ Some later) × IsLater x later) →
            (later : Client A) × (cond t (Some (without_node node e.1)) (client_of s (all_without_node node es)) ≡ Some later) × IsLater x later
        go true q ih = let same : e.1 ≡ x = cc in (without_node node e.1, refl, subst (λ y. IsLater y (without_node node e.1)) same (without_later e.1 node))
        go false q ih = ih q

    module _ (session : ℕ) (c : Client A) (log : NodeLog A) (its : client_of session w.clients ≡ Some c) where
      step_later : (line : Line) (state : State A) (step : Step A) → Keeps w (after_line w session (with_line c line) log state step)
      step_later line state (Say bytes) = keeps_later session c _ its (later_on c (with_line c line) _ (line_later c line) (told_later (with_line c line) bytes (Hears state)))
      step_later line state (SayAndClose bytes) = keeps_later session c _ its (later_on c (with_line c line) _ (line_later c line) (told_later (with_line c line) bytes Over))
      step_later line state (Ask user op) =
          keeps_later session c _ its
          (later_on c (with_line c line) _ (line_later c line) (asking_later (with_line c line) ((next_id log user).ticket) (Waits state (next_id log user))))

      heard_later : (cfg : Config A) (line : Line) (standing : Standing A) → Keeps w (hears_line cfg w session line c log standing)
      heard_later cfg line (Hears state) = step_later line (by_line cfg.accounts c.stamp state line).state (by_line cfg.accounts c.stamp state line).step
      heard_later cfg line (Waits state id) = all_same w
      heard_later cfg line (Failed lock) = all_same w
      heard_later cfg line Disconnected = all_same w
      heard_later cfg line Over = all_same w

      gives_later : (free : Option (List ℕ × Op A)) → Keeps w (gives_back w session (standing_as c Over) free)
      gives_later None = keeps_later session c _ its (stands_later c Over)
      gives_later (Some free) = keeps_later session c _ its (stands_later c Over)

      hangup_later : (standing : Standing A) → Keeps w (hangs_up w session c log standing)
      hangup_later (Hears state) = gives_later (free_of (lock_due state))
      hangup_later (Failed lock) = gives_later (free_of lock)
      hangup_later (Waits state id) = all_same w
      hangup_later Disconnected = all_same w
      hangup_later Over = all_same w

      answer_later : (state : State A) (ticket : Ticket) (o : Option (Outcome A)) → Keeps w (takes_answer w session c state ticket o)
      answer_later state ticket None = all_same w
      answer_later state ticket (Some outcome) = keeps_later session c _ its (turn_later c (by_answer state ticket outcome))

      collect_later : (standing : Standing A) → Keeps w (collects w session c log standing)
      collect_later (Waits state id) = answer_later state id.ticket (answered log id)
      collect_later (Hears state) = all_same w
      collect_later (Failed lock) = all_same w
      collect_later Disconnected = all_same w
      collect_later Over = all_same w

      loses_later : (state : State A) (ticket : Ticket) (o : Option (Outcome A)) → Keeps w (loses_answer w session c state ticket o)
      loses_later state ticket None = all_same w
      loses_later state ticket (Some outcome) = keeps_later session c _ its (stands_later c (Failed (lock_got state ticket outcome)))

      lost_later : (standing : Standing A) → Keeps w (is_lost w session c log standing)
      lost_later (Hears state) = keeps_later session c _ its (stands_later c (Failed (lock_due state)))
      lost_later (Waits state id) = loses_later state id.ticket (answered log id)
      lost_later (Failed lock) = all_same w
      lost_later Disconnected = all_same w
      lost_later Over = all_same w

    occurs_later : (cfg : Config A) (e : Event A) → Keeps w (occurs cfg w e)
    occurs_later cfg (event.Connect session node stamp) = up_later (log_of node w.network.logs) _ (λ log. connects_later session (new_client node stamp) (client_of session w.clients) refl)
    occurs_later cfg (event.Line session line) = served_later (client_of session w.clients) _ (λ c log its. heard_later session c log its cfg line c.standing)
    occurs_later cfg (event.Hangup session) = served_later (client_of session w.clients) _ (λ c log its. hangup_later session c log its c.standing)
    occurs_later cfg (event.Collect session) = served_later (client_of session w.clients) _ (λ c log its. collect_later session c log its c.standing)
    occurs_later cfg (event.Mail node user text key) = all_same w
    occurs_later cfg (event.Break node user) = all_same w
    occurs_later cfg (event.Arrive which) = all_same w
    occurs_later cfg (event.Tick node) = all_same w
    occurs_later cfg (event.Campaign node) = all_same w
    occurs_later cfg (event.Crash node) = up_later (log_of node w.network.logs) _ (λ log. crashes_later node w.clients)

    happens_later : (cfg : Config A) (h : Happening A) → Keeps w (happens cfg w h)
    happens_later cfg (Occurs e) = occurs_later cfg e
    happens_later cfg (Lost session) = served_later (client_of session w.clients) _ (λ c log its. lost_later session c log its c.standing)

  all_later : (cfg : Config A) (w : Service A) (hs : List (Happening A)) → Keeps w (fold (happens cfg) w hs)
  all_later cfg w [] s c at = all_same w s c at
  all_later cfg w (h ∷ hs) s c at =
      let one = happens_later w cfg h s c at in
      let rest = all_later cfg (happens cfg w h) hs s one.0 one.1 in
      (rest.0, rest.1, later_on c one.0 rest.0 one.2 rest.2)

  pub clients_stay : (cfg : Config A) (early late : List (Happening A)) (session : ℕ) (c : Client A) → client_of session (run_of cfg early).clients ≡ Some c →
      (later : Client A) × (client_of session (run_of cfg (early ++ late)).clients ≡ Some later) × IsLater c later
  clients_stay cfg early late session c at =
      let x = all_later cfg (run_of cfg early) late session c at in
      (x.0, ap (λ w. client_of session w.clients) (fold-append (happens cfg) (new_service cfg) early late) ∙ x.1, x.2)
