-- Each event of a legal order happens in a run, and isn't refused there.
use Rattle.std.proofs.Common.{◌≡◌, ℕ, suc, List, [], ◌∷◌, ◌++◌, Bool, true, false, Option, Some, None, refl, sym, ap, ◌∙◌, subst, inl, inr, ⊎_elim, cond, arith, map}
use Rattle.std.specs.Prelude.{slice_get, option_map, ◌==◌, fold}
use Rattle.std.proofs.lemmas.Bool.{eqb-true, true≢false}
use Rattle.std.proofs.lemmas.Option.{slice_get-map}
use Rattle.apop.specs.Stamp.{Stamp}
use Rattle.ballot.specs.declared.message.Envelope.{Envelope}
use Rattle.maildrop.specs.CommandId.{CommandId}
use Rattle.maildrop.specs.declared.command.Command.{Command}
use Rattle.maildrop.specs.declared.op.Op.{Op}
use Rattle.maildrop.specs.declared.op.Op.TheVariants.{Mail, Take, Commit, Free, Break}
use Rattle.maildrop.specs.declared.outcome.Outcome.{Outcome}
use Rattle.node.specs.Nodes.{answered}
use Rattle.node.specs.declared.input.Input.{Input}
use Rattle.node.specs.declared.input.Input.TheVariants.{Submit, Arrive, Tick, Campaign, Crash}
use Rattle.node.specs.declared.log.NodeLog.{NodeLog}
use Rattle.pop3_wire.specs.declared.line.Line.{Line}
use Rattle.session.specs.Session.{by_line, by_answer}
use Rattle.session.specs.declared.state.State.{State}
use Rattle.session.specs.declared.state.Step.{Step}
use Rattle.session.specs.declared.state.Step.TheVariants.{Say, Ask, SayAndClose}
use Rattle.session.specs.declared.state.Turn.{Turn}
use Rattle.session.specs.declared.transcript.Transcript.{Transcript}
use Rattle.std.specs.Option.{option_or}
use Rattle.runs.specs.Clients.{Hears, Waits, Over, Client, new_client, standing_as, told, with_line, asking, disconnected, client_of, with_client, all_without_node}
use Rattle.runs.specs.Messages.{Network, log_of, is_up, given_input}
use Rattle.runs.specs.Refusals.{node_refusal, refusal_of, unless_known, user_refusal, step_refusal}
use Rattle.runs.specs.Services.{Service, keeps, submits_for, next_id, after_answer, by_turn, occurs}
use Rattle.runs.specs.Settling.{first_refusal}
use Rattle.runs.specs.Worlds.{World as Whole, stepped}
use Rattle.runs.specs.declared.config.Config.{Config}
use Rattle.runs.specs.declared.event.Event as run
use Rattle.runs.specs.declared.event.Event.TheVariants as happening
use Rattle.audit.specs.Case.{Plain, Asks, next, state_at, asked}
use Rattle.audit.specs.Order.{Awaited, awaited_by, Session, World, Agrees, Happens, Leads, opening}
use Rattle.audit.specs.Order as order
use Rattle.audit.specs.Placing.{put}
use Rattle.audit.specs.Records.{place_of, inputs_in, number_in, RealCase, case_of, AreFit}
use Rattle.audit.specs.Replays.{Replay, sends, runs, key_of, answer, brought, is_of_lock}
use Rattle.audit.specs.Runs.{AreOfService, IsFor, AreFor, CanHappen, AreForUsers}
use Rattle.audit.specs.Turns.{Turns, script_of}
use Rattle.audit.specs.declared.event.Event.{Event}
use Rattle.audit.specs.declared.event.Event.TheVariants as event
use Rattle.audit.proofs.RunClients.{Goes, AwaitsIt, AwaitsMore, IsDone, StandsFor, StandsAs, SaysLine, AsksLine, stands_later, stands_down, says_line, asks_line, hangs_up, takes_it, takes_more, begins}
use Rattle.audit.proofs.RunHappenings.{client_put, client_other, client_without, none_without, connects_new, node_can, connect_can, crashes_up, line_says, line_closes, line_asks, hangup_frees, answer_taken, line_can, hangup_can, collect_can}
use Rattle.audit.proofs.RunNodes.{AreAt, takes_at, arrives_at, arrival_can, same_place, up_before, down_after}
use Rattle.audit.proofs.Walk.{put_apart}

-- what is left of a legal order so far
abbrev pub OrderSession : Type 0 → Type 0
OrderSession A = Session (Input A) CommandId (Outcome A) Line

abbrev pub OrderWorld : Type 0 → Type 0
OrderWorld A = World (Input A) (Envelope (Command A) A) CommandId (Outcome A) Line

module _ {A : Type 0} where
  turn_node : (c : Client A) (found : Option (Turn A)) → (by_turn c found).node ≡ c.node
  turn_node c None = refl
  turn_node c (Some turn) =
      go turn.step
    where
      go : (step : Step A) → (after_answer c turn.state step).node ≡ c.node
      go (Say bytes) = refl
      go (SayAndClose bytes) = refl
      go (Ask user op) = refl

  turn_stamp : (c : Client A) (found : Option (Turn A)) → (by_turn c found).stamp ≡ c.stamp
  turn_stamp c None = refl
  turn_stamp c (Some turn) =
      go turn.step
    where
      go : (step : Step A) → (after_answer c turn.state step).stamp ≡ c.stamp
      go (Say bytes) = refl
      go (SayAndClose bytes) = refl
      go (Ask user op) = refl

  -- the key that a Submit gets
  submit_key : (log : NodeLog A) (user : List ℕ) (op : Op A) (key : CommandId) → cond (is_of_lock op) (key_of (Some log) (Submit user op)) None ≡ Some key → next_id log user ≡ key
  submit_key log user op key =
      go (is_of_lock op)
    where
      go : (t : Bool) → cond t (Some (next_id log user)) None ≡ Some key → next_id log user ≡ key
      go true h = cc
      go false h = absurd (cc)

  awaits_some : (y z : Awaited CommandId (Outcome A)) → Some y ≡ Some z → y ≡ z
  awaits_some y z h = cc

  -- the transcript of a script
  pub its_transcript : (transcripts : List (Transcript A)) (i : ℕ) (turns : Turns A) → slice_get (map script_of transcripts) i ≡ Some (Some turns) → (t : Transcript A) × (slice_get transcripts i ≡ Some t) × (script_of t ≡ Some turns)
  its_transcript transcripts i turns script =
      go (slice_get transcripts i) refl (sym (slice_get-map script_of transcripts i) ∙ script)
    where
      go : (found : Option (Transcript A)) → slice_get transcripts i ≡ found → option_map script_of found ≡ Some (Some turns) → (t : Transcript A) × (slice_get transcripts i ≡ Some t) × (script_of t ≡ Some turns)
      go None e h = absurd (cc)
      go (Some t) e h = let same : script_of t ≡ Some turns = cc in (t, e, same)

module _ {A : Type 0} (cfg : Config A) (stamps : ℕ → Stamp) (logs : List (NodeLog A)) (transcripts : List (Transcript A)) (fit : AreFit logs transcripts) (service : AreOfService cfg stamps logs transcripts) where
  abbrev pub real : RealCase A
  real = case_of logs transcripts

  abbrev pub number_of : ℕ → ℕ
  number_of n = number_in (slice_get logs n)

  abbrev pub Up : (ℕ → ℕ) → ℕ → Type 0
  Up placed n = runs (state_at real n (placed n)) ≡ true

  abbrev pub NodesAre : (ℕ → ℕ) → List (Envelope (Command A) A) → Network A → Type 0
  NodesAre placed sent net = AreAt cfg logs transcripts fit service.openings placed sent net

  abbrev pub more : (ℕ → ℕ) → ℕ → ℕ → ℕ
  more placed n = put placed n (suc (placed n))

  -- the client of a session that is at the node of a place
  pub record IsSession (placed : ℕ → ℕ) (i n : ℕ) (left : Turns A) (awaits : Option (Awaited CommandId (Outcome A))) (found : Option (Client A)) : Type 0 where
    pub client : Client A
    pub there : found ≡ Some client
    pub transcript : Transcript A
    pub its : slice_get transcripts i ≡ Some transcript
    pub node : client.node ≡ number_of n
    pub greeted : client.stamp ≡ stamps i
    pub stands : StandsAs cfg.accounts (stamps i) transcript (Up placed n) left awaits client

  abbrev pub IsIdle : OrderSession A → Type 0
  IsIdle s = (s.left ≡ []) × (s.awaits ≡ None)

  abbrev pub AtNode : (ℕ → ℕ) → ℕ → OrderSession A → Option (Client A) → Option ℕ → Type 0
  AtNode placed i s found None = (found ≡ None) × (s.done ≡ [])
  AtNode placed i s found (Some n) = IsSession placed i n s.left s.awaits found

  abbrev pub ByScript : (ℕ → ℕ) → ℕ → OrderSession A → Option (Client A) → Option (Option (Turns A)) → Type 0
  ByScript placed i s found None = IsIdle s
  ByScript placed i s found (Some None) = IsIdle s
  ByScript placed i s found (Some (Some turns)) = AtNode placed i s found s.node

  abbrev pub IsFollowed : (ℕ → ℕ) → ℕ → OrderSession A → Option (Client A) → Type 0
  IsFollowed placed i s found = ByScript placed i s found (slice_get real.scripts i)

  -- the service is where the order is
  pub record Follows (w : OrderWorld A) (v : Service A) : Type 0 where
    pub nodes : NodesAre w.placed w.sent v.network
    pub sessions : (i : ℕ) → IsFollowed w.placed i (w.sessions i) (client_of (suc i) v.clients)

  -- the service's event that this one is, and where it leads
  pub record Then (mine : Event) (w : OrderWorld A) (v : Service A) : Type 0 where
    pub event : run.Event A
    pub same : IsFor stamps mine event
    pub can : refusal_of v event ≡ None
    pub unrefused : AreForUsers cfg logs → user_refusal cfg event ≡ None
    pub follows : Follows w (occurs cfg v event)

  -- Sessions to which nothing happens

  later_session : (placed later : ℕ → ℕ) → ((n : ℕ) → Up later n → Up placed n) → (i n : ℕ) (left : Turns A) (awaits : Option (Awaited CommandId (Outcome A))) (found : Option (Client A)) → IsSession placed i n left awaits found → IsSession later i n left awaits found
  later_session placed later before i n left awaits found x = record {
    client = x.client;
    there = x.there;
    transcript = x.transcript;
    its = x.its;
    node = x.node;
    greeted = x.greeted;
    stands = stands_later cfg.accounts (stamps i) x.transcript (Up placed n) (Up later n) (before n) left awaits x.client x.stands;
  }

  pub later_followed : (placed later : ℕ → ℕ) → ((n : ℕ) → Up later n → Up placed n) → (i : ℕ) (s : OrderSession A) (found : Option (Client A)) → IsFollowed placed i s found → IsFollowed later i s found
  later_followed placed later before i s found =
      go (slice_get real.scripts i)
    where
      at : (node : Option ℕ) → AtNode placed i s found node → AtNode later i s found node
      at None h = h
      at (Some n) h = later_session placed later before i n s.left s.awaits found h

      go : (script : Option (Option (Turns A))) → ByScript placed i s found script → ByScript later i s found script
      go None h = h
      go (Some None) h = h
      go (Some (Some turns)) h = at s.node h

  -- A session to which something happens

  record Busy (placed : ℕ → ℕ) (i n : ℕ) (s : OrderSession A) (found : Option (Client A)) : Type 0 where
    session : IsSession placed i n s.left s.awaits found
    again : (later : ℕ → ℕ) (s' : OrderSession A) (found' : Option (Client A)) → s'.node ≡ Some n → IsSession later i n s'.left s'.awaits found' → IsFollowed later i s' found'

  busy : (placed : ℕ → ℕ) (i n : ℕ) (s : OrderSession A) (found : Option (Client A)) → s.node ≡ Some n → (IsIdle s → ⊥) → IsFollowed placed i s found → Busy placed i n s found
  busy placed i n s found node not_idle =
      go (slice_get real.scripts i) refl
    where
      go : (script : Option (Option (Turns A))) → slice_get real.scripts i ≡ script → ByScript placed i s found script → Busy placed i n s found
      go None e h = absurd (not_idle h)
      go (Some None) e h = absurd (not_idle h)
      go (Some (Some turns)) e h = record {
        session = subst (AtNode placed i s found) node h;
        again = λ later s' found' at x. subst (ByScript later i s' found') (sym e) (subst (AtNode later i s' found') (sym at) x);
      }

  no_plain : (s : OrderSession A) (l : Line) (ts : Turns A) → s.left ≡ Plain l ∷ ts → IsIdle s → ⊥
  no_plain s l ts e idle = let no : Plain l ∷ ts ≡ [] = sym e ∙ idle.0 in absurd (cc)

  no_asks : (s : OrderSession A) (line : Option Line) (x : Input A) (k : CommandId) (o : Option (Outcome A)) (ts : Turns A) → s.left ≡ Asks line x k o ∷ ts → IsIdle s → ⊥
  no_asks s line x k o ts e idle = let no : Asks line x k o ∷ ts ≡ [] = sym e ∙ idle.0 in absurd (cc)

  no_await : (s : OrderSession A) (y : Awaited CommandId (Outcome A)) → s.awaits ≡ Some y → IsIdle s → ⊥
  no_await s y e idle = let no : Some y ≡ None = sym e ∙ idle.1 in absurd (cc)

  -- a session that is greeted
  pub greeted : (placed : ℕ → ℕ) (i n : ℕ) (turns : Turns A) → slice_get real.scripts i ≡ Some (Some turns) → IsSession placed i n turns None (Some (new_client (number_of n) (stamps i)))
  greeted placed i n turns script =
      let t = its_transcript transcripts i turns script in
      record {
        client = new_client (number_of n) (stamps i);
        there = refl;
        transcript = t.0;
        its = t.1;
        node = refl;
        greeted = refl;
        stands = inl (begins cfg.accounts (stamps i) t.0 (service.served i t.0 t.1) turns t.2 (Up placed n) (number_of n));
      }

  -- the log of a node that is up
  record HasLog (net : Network A) (placed : ℕ → ℕ) (n : ℕ) : Type 0 where
    log : NodeLog A
    its_log : log_of (number_of n) net.logs ≡ Some log
    state : state_at real n (placed n) ≡ Some log
    up : is_up (Some log) ≡ true

  log_there : (placed : ℕ → ℕ) (sent : List (Envelope (Command A) A)) (net : Network A) → NodesAre placed sent net → (n : ℕ) → Up placed n → HasLog net placed n
  log_there placed sent net at n up =
      go (state_at real n (placed n)) refl up
    where
      go : (s : Replay A) → state_at real n (placed n) ≡ s → runs s ≡ true → HasLog net placed n
      go None e u = absurd (true≢false (sym u))
      go (Some log) e u = record { log = log; its_log = at.nodes n ∙ e; state = e; up = u }

  module _ (w : OrderWorld A) (v : Service A) (f : Follows w v) where
    -- one session is another, and the rest is as it was
    pub one_session : (placed : ℕ → ℕ) (sent : List (Envelope (Command A) A)) (net : Network A) (i n : ℕ) (s : OrderSession A) (c : Client A) → NodesAre placed sent net → ((n : ℕ) → Up placed n → Up w.placed n)
        → IsFollowed placed i s (Some c)
        → Follows (record { placed = placed; sent = sent; sessions = put w.sessions i s }) (record { network = net; clients = with_client (suc i) c v.clients })
    one_session placed sent net i n s c at before new = record {
      nodes = at;
      sessions = put_apart (λ j x. IsFollowed placed j x (client_of (suc j) (with_client (suc i) c v.clients))) w.sessions i s
          (subst (IsFollowed placed i s) (sym (client_put (suc i) c v.clients)) new)
          (λ j ne. subst (IsFollowed placed j (w.sessions j)) (sym (client_other (suc i) (suc j) c v.clients (λ e. ne (omega (arith, e))))) (later_followed w.placed placed before j (w.sessions j) (client_of (suc j) v.clients) (f.sessions j)));
    }

    -- a line that asks nothing
    pub plain_line : (i n : ℕ) (l : Line) (ts : Turns A) → (w.sessions i).node ≡ Some n → Up w.placed n → (w.sessions i).awaits ≡ None → (w.sessions i).left ≡ Plain l ∷ ts
        → Then (event.Line i) (record { placed = w.placed; sent = w.sent; sessions = put w.sessions i (record { node = Some n; done = (w.sessions i).done ++ Plain l ∷ []; left = ts; awaits = None }) }) v
    plain_line i n l ts node up free left =
        ⊎_elim said (λ (d : IsDone cfg.accounts (stamps i) b.session.transcript (Plain l ∷ ts) b.session.client). let no : Plain l ∷ ts ≡ [] = d.no_turn in absurd (cc)) stands
      where
        b : Busy w.placed i n (w.sessions i) (client_of (suc i) v.clients)
        b = busy w.placed i n (w.sessions i) (client_of (suc i) v.clients) node (no_plain (w.sessions i) l ts left) (f.sessions i)

        stands : StandsAs cfg.accounts (stamps i) b.session.transcript (Up w.placed n) (Plain l ∷ ts) None b.session.client
        stands =
            subst (λ u. StandsAs cfg.accounts (stamps i) b.session.transcript (Up w.placed n) (Plain l ∷ ts) u b.session.client) free
            (subst (λ u. StandsAs cfg.accounts (stamps i) b.session.transcript (Up w.placed n) u (w.sessions i).awaits b.session.client) left b.session.stands)

        g : HasLog v.network w.placed n
        g = log_there w.placed w.sent v.network f.nodes n up

        its_log : log_of b.session.client.node v.network.logs ≡ Some g.log
        its_log = ap (λ k. log_of k v.network.logs) b.session.node ∙ g.its_log

        said : Goes cfg.accounts (stamps i) b.session.transcript (Up w.placed n) (Plain l ∷ ts) b.session.client
            → Then (event.Line i) (record { placed = w.placed; sent = w.sent; sessions = put w.sessions i (record { node = Some n; done = (w.sessions i).done ++ Plain l ∷ []; left = ts; awaits = None }) }) v
        said goes = record {
          event = happening.Line (suc i) l;
          same = refl;
          can = line_can cfg v (suc i) b.session.client g.log b.session.there its_log g.up l r.state r.hearing;
          unrefused = λ users. refl;
          follows = subst (Follows _) (sym happened) (one_session w.placed w.sent v.network i n _ later f.nodes (λ n h. h)
              (b.again w.placed (record { node = Some n; done = (w.sessions i).done ++ Plain l ∷ []; left = ts; awaits = None }) (Some later) refl
              (record { client = later; there = refl; transcript = b.session.transcript; its = b.session.its; node = b.session.node; greeted = b.session.greeted; stands = inl r.goes })));
        }
          where
            r : SaysLine cfg.accounts (stamps i) b.session.transcript (Up w.placed n) l ts b.session.client
            r = says_line cfg.accounts (stamps i) b.session.transcript (Up w.placed n) (Up w.placed n) l ts b.session.client up goes

            later : Client A
            later = told (with_line b.session.client l) r.bytes r.after

            happened : occurs cfg v (happening.Line (suc i) l) ≡ keeps v (suc i) (told (with_line b.session.client l) r.bytes r.after)
            happened =
                ⊎_elim
                (λ (h : ((by_line cfg.accounts (stamps i) r.state l).step ≡ Say r.bytes) × (r.after ≡ Hears (by_line cfg.accounts (stamps i) r.state l).state)).
                line_says cfg v (suc i) b.session.client g.log b.session.there its_log g.up l r.state r.bytes r.hearing (ap (λ st. (by_line cfg.accounts st r.state l).step) b.session.greeted ∙ h.0)
                ∙ ap (λ st. keeps v (suc i) (told (with_line b.session.client l) r.bytes (Hears (by_line cfg.accounts st r.state l).state))) b.session.greeted
                ∙ ap (λ after. keeps v (suc i) (told (with_line b.session.client l) r.bytes after)) (sym h.1))
                (λ (h : ((by_line cfg.accounts (stamps i) r.state l).step ≡ SayAndClose r.bytes) × (r.after ≡ Over)).
                line_closes cfg v (suc i) b.session.client g.log b.session.there its_log g.up l r.state r.bytes r.hearing (ap (λ st. (by_line cfg.accounts st r.state l).step) b.session.greeted ∙ h.0)
                ∙ ap (λ after. keeps v (suc i) (told (with_line b.session.client l) r.bytes after)) (sym h.1))
                r.step

    -- a node that takes an input, once it is a Submit at the number of a client's node
    submitted_at : (n : ℕ) (x : Input A) → next real n (w.placed n) ≡ Some x → Up w.placed n → (number : ℕ) → number ≡ number_of n → (user : List ℕ) (op : Op A) → x ≡ Submit user op
        → NodesAre (more w.placed n) (w.sent ++ sends (state_at real n (w.placed n)) x) (given_input v.network number (Submit user op))
    submitted_at n x comes up number same user op input =
        subst (λ k. NodesAre (more w.placed n) (w.sent ++ sends (state_at real n (w.placed n)) x) (given_input v.network k (Submit user op))) (sym same)
        (subst (λ y. NodesAre (more w.placed n) (w.sent ++ sends (state_at real n (w.placed n)) x) (given_input v.network (number_of n) y)) input
        (takes_at cfg logs transcripts fit service.openings w.placed w.sent v.network f.nodes n x comes up))

    its_key : (n : ℕ) (log : NodeLog A) → state_at real n (w.placed n) ≡ Some log → (x : Input A) (user : List ℕ) (op : Op A) → x ≡ Submit user op → (k : CommandId) → asked real (state_at real n (w.placed n)) x ≡ Some k → next_id log user ≡ k
    its_key n log state x user op input k e =
        submit_key log user op k (subst (λ y. asked real (Some log) y ≡ Some k) input (subst (λ s. asked real s x ≡ Some k) state e))

    abbrev asked_world : ℕ → ℕ → Option Line → Input A → CommandId → Option (Outcome A) → Turns A → OrderWorld A
    asked_world i n line x k o ts = record {
      placed = more w.placed n;
      sent = w.sent ++ sends (state_at real n (w.placed n)) x;
      sessions = put w.sessions i (record { node = Some n; done = (w.sessions i).done ++ Asks line x k o ∷ []; left = ts; awaits = awaited_by line k o });
    }

    before : (n : ℕ) (x : Input A) → next real n (w.placed n) ≡ Some x → (m : ℕ) → Up (more w.placed n) m → Up w.placed m
    before n x comes = up_before cfg logs transcripts fit service.openings w.placed w.sent v.network f.nodes n x comes

    -- a line that asks
    pub asking_line : (i n : ℕ) (l : Line) (x : Input A) (k : CommandId) (o : Option (Outcome A)) (ts : Turns A) → (w.sessions i).node ≡ Some n → Up w.placed n → (w.sessions i).awaits ≡ None → (w.sessions i).left ≡ Asks (Some l) x k o ∷ ts
        → asked real (state_at real n (w.placed n)) x ≡ Some k → next real n (w.placed n) ≡ Some x → Then (event.Line i) (asked_world i n (Some l) x k o ts) v
    asking_line i n l x k o ts node up free left key comes =
        ⊎_elim asks (λ (d : IsDone cfg.accounts (stamps i) b.session.transcript (Asks (Some l) x k o ∷ ts) b.session.client). let no : Asks (Some l) x k o ∷ ts ≡ [] = d.no_turn in absurd (cc)) stands
      where
        b : Busy w.placed i n (w.sessions i) (client_of (suc i) v.clients)
        b = busy w.placed i n (w.sessions i) (client_of (suc i) v.clients) node (no_asks (w.sessions i) (Some l) x k o ts left) (f.sessions i)

        stands : StandsAs cfg.accounts (stamps i) b.session.transcript (Up w.placed n) (Asks (Some l) x k o ∷ ts) None b.session.client
        stands =
            subst (λ u. StandsAs cfg.accounts (stamps i) b.session.transcript (Up w.placed n) (Asks (Some l) x k o ∷ ts) u b.session.client) free
            (subst (λ u. StandsAs cfg.accounts (stamps i) b.session.transcript (Up w.placed n) u (w.sessions i).awaits b.session.client) left b.session.stands)

        g : HasLog v.network w.placed n
        g = log_there w.placed w.sent v.network f.nodes n up

        its_log : log_of b.session.client.node v.network.logs ≡ Some g.log
        its_log = ap (λ k. log_of k v.network.logs) b.session.node ∙ g.its_log

        asks : Goes cfg.accounts (stamps i) b.session.transcript (Up w.placed n) (Asks (Some l) x k o ∷ ts) b.session.client → Then (event.Line i) (asked_world i n (Some l) x k o ts) v
        asks goes = record {
          event = happening.Line (suc i) l;
          same = refl;
          can = line_can cfg v (suc i) b.session.client g.log b.session.there its_log g.up l r.state r.hearing;
          unrefused = λ users. refl;
          follows = subst (Follows (asked_world i n (Some l) x k o ts)) (sym happened)
              (one_session (more w.placed n) (w.sent ++ sends (state_at real n (w.placed n)) x) (given_input v.network later.node (Submit r.user r.op)) i n _ later
              (submitted_at n x comes up later.node b.session.node r.user r.op r.input) (before n x comes)
              (b.again (more w.placed n) (record { node = Some n; done = (w.sessions i).done ++ Asks (Some l) x k o ∷ []; left = ts; awaits = Some (record { key = k; outcome = o }) }) (Some later) refl
              (record { client = later; there = refl; transcript = b.session.transcript; its = b.session.its; node = b.session.node; greeted = b.session.greeted; stands = r.stands })));
        }
          where
            r : AsksLine cfg.accounts (stamps i) b.session.transcript (Up (more w.placed n) n) l x k o ts b.session.client
            r = asks_line cfg.accounts (stamps i) b.session.transcript (Up w.placed n) (Up (more w.placed n) n) l x k o ts b.session.client up goes

            later : Client A
            later = asking (with_line b.session.client l) k.ticket (Waits (by_line cfg.accounts (stamps i) r.state l).state k)

            happened : occurs cfg v (happening.Line (suc i) l) ≡ submits_for v (suc i) (asking (with_line b.session.client l) k.ticket (Waits (by_line cfg.accounts (stamps i) r.state l).state k)) r.user r.op
            happened =
                line_asks cfg v (suc i) b.session.client g.log b.session.there its_log g.up l r.state r.user r.op r.hearing (ap (λ st. (by_line cfg.accounts st r.state l).step) b.session.greeted ∙ r.step)
                ∙ ap (λ st. submits_for v (suc i) (asking (with_line b.session.client l) ((next_id g.log r.user).ticket) (Waits (by_line cfg.accounts st r.state l).state (next_id g.log r.user))) r.user r.op) b.session.greeted
                ∙ ap (λ (id : CommandId). submits_for v (suc i) (asking (with_line b.session.client l) id.ticket (Waits (by_line cfg.accounts (stamps i) r.state l).state id)) r.user r.op) (its_key n g.log g.state x r.user r.op r.input k key)

    -- a hangup
    pub hangup : (i n : ℕ) (x : Input A) (k : CommandId) (o : Option (Outcome A)) (ts : Turns A) → (w.sessions i).node ≡ Some n → Up w.placed n → (w.sessions i).awaits ≡ None → (w.sessions i).left ≡ Asks None x k o ∷ ts
        → next real n (w.placed n) ≡ Some x → Then (event.Hangup i) (asked_world i n None x k o ts) v
    hangup i n x k o ts node up free left comes =
        ⊎_elim frees (λ (d : IsDone cfg.accounts (stamps i) b.session.transcript (Asks None x k o ∷ ts) b.session.client). let no : Asks None x k o ∷ ts ≡ [] = d.no_turn in absurd (cc)) stands
      where
        b : Busy w.placed i n (w.sessions i) (client_of (suc i) v.clients)
        b = busy w.placed i n (w.sessions i) (client_of (suc i) v.clients) node (no_asks (w.sessions i) None x k o ts left) (f.sessions i)

        stands : StandsAs cfg.accounts (stamps i) b.session.transcript (Up w.placed n) (Asks None x k o ∷ ts) None b.session.client
        stands =
            subst (λ u. StandsAs cfg.accounts (stamps i) b.session.transcript (Up w.placed n) (Asks None x k o ∷ ts) u b.session.client) free
            (subst (λ u. StandsAs cfg.accounts (stamps i) b.session.transcript (Up w.placed n) u (w.sessions i).awaits b.session.client) left b.session.stands)

        g : HasLog v.network w.placed n
        g = log_there w.placed w.sent v.network f.nodes n up

        its_log : log_of b.session.client.node v.network.logs ≡ Some g.log
        its_log = ap (λ k. log_of k v.network.logs) b.session.node ∙ g.its_log

        frees : Goes cfg.accounts (stamps i) b.session.transcript (Up w.placed n) (Asks None x k o ∷ ts) b.session.client → Then (event.Hangup i) (asked_world i n None x k o ts) v
        frees goes =
            let r = hangs_up cfg.accounts (stamps i) b.session.transcript (Up w.placed n) x k o ts b.session.client up goes in record {
              event = happening.Hangup (suc i);
              same = refl;
              can = hangup_can cfg v (suc i) b.session.client g.log b.session.there its_log g.up r.state r.hearing;
              unrefused = λ users. refl;
              follows = subst (Follows (asked_world i n None x k o ts)) (sym (hangup_frees cfg v (suc i) b.session.client g.log b.session.there its_log g.up r.state r.user r.lock r.hearing r.due))
                  (one_session (more w.placed n) (w.sent ++ sends (state_at real n (w.placed n)) x) (given_input v.network b.session.client.node (Submit r.user (Free r.lock))) i n _ (standing_as b.session.client Over)
                  (submitted_at n x comes up b.session.client.node b.session.node r.user (Free r.lock) r.input) (before n x comes)
                  (b.again (more w.placed n) (record { node = Some n; done = (w.sessions i).done ++ Asks None x k o ∷ []; left = ts; awaits = None }) (Some (standing_as b.session.client Over)) refl
                  (record { client = standing_as b.session.client Over; there = refl; transcript = b.session.transcript; its = b.session.its; node = b.session.node; greeted = b.session.greeted; stands = inr r.over })));
            }

    -- an answer is taken
    abbrev collected_world : ℕ → ℕ → OrderWorld A
    collected_world i n = record {
      placed = w.placed;
      sent = w.sent;
      sessions = put w.sessions i (record { node = Some n; done = (w.sessions i).done; left = (w.sessions i).left; awaits = None });
    }

    pub collect : (i n : ℕ) (y : Awaited CommandId (Outcome A)) (o : Outcome A) → (w.sessions i).node ≡ Some n → Up w.placed n → (w.sessions i).awaits ≡ Some y → answer (state_at real n (w.placed n)) y.key ≡ Some o → Agrees real y.outcome o
        → Then (event.Collect i) (collected_world i n) v
    collect i n y o node up awaits is_answered agrees =
        go y.outcome agrees stands
      where
        b : Busy w.placed i n (w.sessions i) (client_of (suc i) v.clients)
        b = busy w.placed i n (w.sessions i) (client_of (suc i) v.clients) node (no_await (w.sessions i) y awaits) (f.sessions i)

        stands : StandsFor cfg.accounts (stamps i) b.session.transcript (Up w.placed n) (w.sessions i).left y.key b.session.client y.outcome
        stands = subst (λ u. StandsAs cfg.accounts (stamps i) b.session.transcript (Up w.placed n) (w.sessions i).left u b.session.client) awaits b.session.stands

        g : HasLog v.network w.placed n
        g = log_there w.placed w.sent v.network f.nodes n up

        its_log : log_of b.session.client.node v.network.logs ≡ Some g.log
        its_log = ap (λ k. log_of k v.network.logs) b.session.node ∙ g.its_log

        here : answered g.log y.key ≡ Some o
        here = subst (λ s. answer s y.key ≡ Some o) g.state is_answered

        taken : (state : State A) → b.session.client.standing ≡ Waits state y.key → StandsAs cfg.accounts (stamps i) b.session.transcript (Up w.placed n) (w.sessions i).left None (by_turn b.session.client (by_answer state y.key.ticket o)) → Then (event.Collect i) (collected_world i n) v
        taken state waits now =
            let c = by_turn b.session.client (by_answer state y.key.ticket o) in
            record {
              event = happening.Collect (suc i);
              same = refl;
              can = collect_can cfg v (suc i) b.session.client g.log b.session.there its_log g.up state y.key o waits here;
              unrefused = λ users. refl;
              follows = subst (Follows (collected_world i n)) (sym (answer_taken cfg v (suc i) b.session.client g.log b.session.there its_log g.up state y.key o waits here))
                  (one_session w.placed w.sent v.network i n _ c f.nodes (λ n h. h)
                  (b.again w.placed (record { node = Some n; done = (w.sessions i).done; left = (w.sessions i).left; awaits = None }) (Some c) refl
                  (record {
                    client = c;
                    there = refl;
                    transcript = b.session.transcript;
                    its = b.session.its;
                    node = turn_node b.session.client (by_answer state y.key.ticket o) ∙ b.session.node;
                    greeted = turn_stamp b.session.client (by_answer state y.key.ticket o) ∙ b.session.greeted;
                    stands = now;
                  })));
            }

        more_taken : AwaitsMore cfg.accounts (stamps i) b.session.transcript (Up w.placed n) (w.sessions i).left y.key b.session.client → Then (event.Collect i) (collected_world i n) v
        more_taken m = taken m.state (m.stands up) (inr (takes_more cfg.accounts (stamps i) b.session.transcript (w.sessions i).left b.session.client (by_answer m.state y.key.ticket o) m.over))

        go : (outcome : Option (Outcome A)) → Agrees real outcome o → StandsFor cfg.accounts (stamps i) b.session.transcript (Up w.placed n) (w.sessions i).left y.key b.session.client outcome → Then (event.Collect i) (collected_world i n) v
        go None agrees m = more_taken m
        go (Some outcome) agrees h =
            ⊎_elim
            (λ (a : AwaitsIt cfg.accounts (stamps i) b.session.transcript (Up w.placed n) (w.sessions i).left y.key outcome b.session.client).
            taken a.state (a.stands up)
            (inl (subst (λ u. Goes cfg.accounts (stamps i) b.session.transcript (Up w.placed n) (w.sessions i).left (by_turn b.session.client (by_answer a.state y.key.ticket u))) agrees
            (takes_it cfg.accounts (stamps i) b.session.transcript (Up w.placed n) (w.sessions i).left y.key outcome b.session.client a (Up w.placed n)))))
            more_taken
            h

    -- Something at the nodes alone

    abbrev given_world : ℕ → Input A → OrderWorld A
    given_world n x = record { placed = more w.placed n; sent = w.sent ++ sends (state_at real n (w.placed n)) x; sessions = w.sessions }

    at_nodes_alone : (placed : ℕ → ℕ) (sent : List (Envelope (Command A) A)) (net : Network A) → NodesAre placed sent net → ((n : ℕ) → Up placed n → Up w.placed n)
        → Follows (record { placed = placed; sent = sent; sessions = w.sessions }) (record { network = net; clients = v.clients })
    at_nodes_alone placed sent net at up_earlier = record {
      nodes = at;
      sessions = λ j. later_followed w.placed placed up_earlier j (w.sessions j) (client_of (suc j) v.clients) (f.sessions j);
    }

    takes_input : (n : ℕ) (x : Input A) → next real n (w.placed n) ≡ Some x → Up w.placed n → Follows (given_world n x) (record { network = given_input v.network (number_of n) x; clients = v.clients })
    takes_input n x comes up =
        at_nodes_alone (more w.placed n) (w.sent ++ sends (state_at real n (w.placed n)) x) (given_input v.network (number_of n) x)
        (takes_at cfg logs transcripts fit service.openings w.placed w.sent v.network f.nodes n x comes up) (before n x comes)

    -- a Take, a Commit or a Free is asked for
    locked : (n : ℕ) (user : List ℕ) (op : Op A) → is_of_lock op ≡ true → asked real (state_at real n (w.placed n)) (Submit user op) ≡ None → Up w.placed n → ⊥
    locked n user op lock none up =
        let g = log_there w.placed w.sent v.network f.nodes n up in
        go g.log (is_of_lock op) lock (subst (λ s. asked real s (Submit user op) ≡ None) g.state none)
      where
        go : (log : NodeLog A) (t : Bool) → t ≡ true → cond t (key_of (Some log) (Submit user op)) None ≡ None → ⊥
        go log true e h = absurd (cc)
        go log false e h = true≢false (sym e)

    -- a crash strands the node's clients
    crash_session : (n : ℕ) → next real n (w.placed n) ≡ Some Crash → Up w.placed n → (j m : ℕ) (left : Turns A) (awaits : Option (Awaited CommandId (Outcome A)))
        → IsSession w.placed j m left awaits (client_of (suc j) v.clients) → IsSession (more w.placed n) j m left awaits (client_of (suc j) (all_without_node (number_of n) v.clients))
    crash_session n comes up j m left awaits x =
        go (x.client.node == number_of n) refl
      where
        there : (t : Bool) → (x.client.node == number_of n) ≡ t → client_of (suc j) (all_without_node (number_of n) v.clients) ≡ Some (cond t (standing_as x.client (disconnected x.client.standing)) x.client)
        there t e = client_without (number_of n) (suc j) v.clients x.client x.there ∙ ap (λ u. Some (cond u (standing_as x.client (disconnected x.client.standing)) x.client)) e

        down : (x.client.node == number_of n) ≡ true → Up (more w.placed n) m → ⊥
        down e =
            let same : m ≡ n = same_place cfg logs transcripts fit service.openings w.placed w.sent v.network f.nodes m n up (sym x.node ∙ eqb-true x.client.node (number_of n) e) in
            λ h. down_after cfg logs transcripts fit service.openings w.placed w.sent v.network f.nodes n comes (subst (Up (more w.placed n)) same h)

        go : (t : Bool) → (x.client.node == number_of n) ≡ t → IsSession (more w.placed n) j m left awaits (client_of (suc j) (all_without_node (number_of n) v.clients))
        go true e = record {
          client = standing_as x.client (disconnected x.client.standing);
          there = there true e;
          transcript = x.transcript;
          its = x.its;
          node = x.node;
          greeted = x.greeted;
          stands = stands_down cfg.accounts (stamps j) x.transcript (Up w.placed m) (Up (more w.placed n) m) (down e) left awaits x.client (disconnected x.client.standing) x.stands;
        }
        go false e = record {
          client = x.client;
          there = there false e;
          transcript = x.transcript;
          its = x.its;
          node = x.node;
          greeted = x.greeted;
          stands = stands_later cfg.accounts (stamps j) x.transcript (Up w.placed m) (Up (more w.placed n) m) (before n Crash comes m) left awaits x.client x.stands;
        }

    crash_followed : (n : ℕ) → next real n (w.placed n) ≡ Some Crash → Up w.placed n → (j : ℕ) → IsFollowed (more w.placed n) j (w.sessions j) (client_of (suc j) (all_without_node (number_of n) v.clients))
    crash_followed n comes up j =
        go (slice_get real.scripts j) (f.sessions j)
      where
        at : (node : Option ℕ) → AtNode w.placed j (w.sessions j) (client_of (suc j) v.clients) node → AtNode (more w.placed n) j (w.sessions j) (client_of (suc j) (all_without_node (number_of n) v.clients)) node
        at None h = (none_without (number_of n) (suc j) v.clients h.0, h.1)
        at (Some m) h = crash_session n comes up j m (w.sessions j).left (w.sessions j).awaits h

        go : (script : Option (Option (Turns A))) → ByScript w.placed j (w.sessions j) (client_of (suc j) v.clients) script
            → ByScript (more w.placed n) j (w.sessions j) (client_of (suc j) (all_without_node (number_of n) v.clients)) script
        go None h = h
        go (Some None) h = h
        go (Some (Some turns)) h = at (w.sessions j).node h

    -- something at a node that is up
    at_node : (n : ℕ) (e : run.Event A) (w' : OrderWorld A) → Up w.placed n → IsFor stamps (event.Given (number_of n)) e → refusal_of v e ≡ node_refusal v (number_of n) → (AreForUsers cfg logs → user_refusal cfg e ≡ None) → Follows w' (occurs cfg v e) → Then (event.Given (number_of n)) w' v
    at_node n e w' up same refusal unrefused follows =
        let g = log_there w.placed w.sent v.network f.nodes n up in
        record { event = e; same = same; can = refusal ∙ node_can cfg v 0 (number_of n) g.log g.its_log g.up; unrefused = unrefused; follows = follows }

    crash : (n : ℕ) → next real n (w.placed n) ≡ Some Crash → Up w.placed n → Then (event.Given (number_of n)) (given_world n Crash) v
    crash n comes up =
        let g = log_there w.placed w.sent v.network f.nodes n up in
        at_node n (happening.Crash (number_of n)) (given_world n Crash) up refl refl (λ users. refl)
        (subst (Follows (given_world n Crash)) (sym (crashes_up cfg v 0 (number_of n) g.log g.its_log g.up)) (record {
          nodes = takes_at cfg logs transcripts fit service.openings w.placed w.sent v.network f.nodes n Crash comes up;
          sessions = crash_followed n comes up;
        }))

    -- messages and breaks are for users with accounts
    its_user : (n : ℕ) (user : List ℕ) (op : Op A) → is_of_lock op ≡ false → next real n (w.placed n) ≡ Some (Submit user op) → AreForUsers cfg logs → unless_known cfg user ≡ None
    its_user n user op other comes users =
        go (slice_get logs n) refl comes
      where
        go : (found : Option (NodeLog A)) → slice_get logs n ≡ found → slice_get (inputs_in found) (w.placed n) ≡ Some (Submit user op) → unless_known cfg user ≡ None
        go None e h = absurd (cc)
        go (Some log) e h = rw (users.each n log (w.placed n) user op e h other) refl

    pub given : (n : ℕ) (x : Input A) → brought x ≡ None → asked real (state_at real n (w.placed n)) x ≡ None → next real n (w.placed n) ≡ Some x → Up w.placed n → Then (event.Given (number_of n)) (given_world n x) v
    given n (Submit user (Mail text key)) brings none comes up =
        at_node n (happening.Mail (number_of n) user text key) (given_world n (Submit user (Mail text key))) up refl refl (its_user n user (Mail text key) refl comes) (takes_input n (Submit user (Mail text key)) comes up)
    given n (Submit user Break) brings none comes up =
        at_node n (happening.Break (number_of n) user) (given_world n (Submit user Break)) up refl refl (its_user n user Break refl comes) (takes_input n (Submit user Break) comes up)
    given n (Submit user Take) brings none comes up = absurd (locked n user Take refl none up)
    given n (Submit user (Commit lock uids)) brings none comes up = absurd (locked n user (Commit lock uids) refl none up)
    given n (Submit user (Free lock)) brings none comes up = absurd (locked n user (Free lock) refl none up)
    given n (Arrive e) brings none comes up = absurd (cc)
    given n Tick brings none comes up = at_node n (happening.Tick (number_of n)) (given_world n Tick) up refl refl (λ users. refl) (takes_input n Tick comes up)
    given n Campaign brings none comes up = at_node n (happening.Campaign (number_of n)) (given_world n Campaign) up refl refl (λ users. refl) (takes_input n Campaign comes up)
    given n Crash brings none comes up = crash n comes up

    -- a message arrives
    pub arrive : (which : ℕ) (e : Envelope (Command A) A) (x : Input A) → slice_get w.sent which ≡ Some e → brought x ≡ Some e → next real (place_of e.to logs) (w.placed (place_of e.to logs)) ≡ Some x → Up w.placed (place_of e.to logs)
        → Then (event.Arrive which) (given_world (place_of e.to logs) x) v
    arrive which e x was brings comes up = record {
      event = happening.Arrive which;
      same = refl;
      can = arrival_can cfg logs transcripts fit service.openings w.placed w.sent v f.nodes which e was up;
      unrefused = λ users. refl;
      follows = at_nodes_alone (more w.placed (place_of e.to logs)) _ _
          (arrives_at cfg logs transcripts fit service.openings w.placed w.sent v.network f.nodes which e x was brings comes up) (before (place_of e.to logs) x comes);
    }

    -- a session connects
    abbrev new_session : ℕ → Turns A → OrderSession A
    new_session n ts = record { node = Some n; done = []; left = ts; awaits = None }

    abbrev connected_world : ℕ → ℕ → Turns A → OrderWorld A
    connected_world i n ts = record { placed = w.placed; sent = w.sent; sessions = put w.sessions i (new_session n ts) }

    pub connect : (i n : ℕ) (ts : Turns A) → slice_get real.scripts i ≡ Some (Some ts) → (w.sessions i).node ≡ None → Up w.placed n → Then (event.Connect i (number_of n)) (connected_world i n ts) v
    connect i n ts script node up = record {
      event = happening.Connect (suc i) (number_of n) (stamps i);
      same = (refl, refl, refl);
      can = connect_can cfg v (suc i) (number_of n) (stamps i) g.log g.its_log g.up none;
      unrefused = λ users. refl;
      follows = subst (Follows (connected_world i n ts)) (sym (connects_new cfg v (suc i) (number_of n) (stamps i) g.log g.its_log g.up none))
          (one_session w.placed w.sent v.network i n (new_session n ts) (new_client (number_of n) (stamps i)) f.nodes (λ n h. h)
          (subst (ByScript w.placed i (new_session n ts) (Some (new_client (number_of n) (stamps i)))) (sym script)
          (greeted w.placed i n ts script)));
    }
      where
        g : HasLog v.network w.placed n
        g = log_there w.placed w.sent v.network f.nodes n up

        none : client_of (suc i) v.clients ≡ None
        none = (subst (AtNode w.placed i (w.sessions i) (client_of (suc i) v.clients)) node (subst (ByScript w.placed i (w.sessions i) (client_of (suc i) v.clients)) script (f.sessions i))).0

  -- an event happens in the run
  pub step : (w w' : OrderWorld A) (v : Service A) (e : Event) → Follows w v → Happens real w e w' → Then e w' v
  step w w' v (event.Connect i number) f h = subst (λ k. Then (event.Connect i k) w' v) h.1 (subst (λ u. Then (event.Connect i (number_of h.0)) u v) (sym h.7) (connect w v f i h.0 h.2 h.3 h.5 h.6))
  step w w' v (event.Line i) f h =
      ⊎_elim
      (λ (q : (l : Line) × order.Says real w i h.0 l w'). subst (λ u. Then (event.Line i) u v) (sym q.1.2) (plain_line w v f i h.0 q.0 q.1.0 h.1.0 h.1.1 h.1.2 q.1.1))
      (λ (q : (l : Line) × order.Submits real w i h.0 (Some l) w').
      let s = q.1 in
      subst (λ u. Then (event.Line i) u v) (sym s.7.2) (asking_line w v f i h.0 q.0 s.0 s.1 s.2 s.3 h.1.0 h.1.1 h.1.2 s.4 s.6 s.7.0))
      h.2
  step w w' v (event.Hangup i) f h =
      let s = h.2 in
      subst (λ u. Then (event.Hangup i) u v) (sym s.7.2) (hangup w v f i h.0 s.0 s.1 s.2 s.3 h.1.0 h.1.1 h.1.2 s.4 s.7.0)
  step w w' v (event.Collect i) f h = subst (λ u. Then (event.Collect i) u v) (sym h.8) (collect w v f i h.0 h.1 h.2 h.3 h.4 h.5 h.6 h.7)
  step w w' v (event.Given number) f h = subst (λ k. Then (event.Given k) w' v) h.2 (subst (λ u. Then (event.Given (number_of h.0)) u v) (sym h.5.2) (given w v f h.0 h.1 h.3 h.4 h.5.0 h.5.1))
  step w w' v (event.Arrive which) f h = subst (λ u. Then (event.Arrive which) u v) (sym h.5.2) (arrive w v f which h.0 h.1 h.2 h.3 h.5.0 h.5.1)

  -- the service's events for these, and where they lead
  pub record Steps (events : List Event) (w : OrderWorld A) (v : Service A) : Type 0 where
    pub taken : List (run.Event A)
    pub same : AreFor stamps events taken
    pub possible : CanHappen cfg v taken
    pub unrefused : AreForUsers cfg logs → (u : Whole A) → u.config ≡ cfg → u.service ≡ v → first_refusal u taken ≡ None
    pub follows : Follows w (fold (occurs cfg) v taken)

  pub steps : (events : List Event) (w w' : OrderWorld A) (v : Service A) → Follows w v → Leads real w events w' → Steps events w' v
  steps [] w w' v f h = record { taken = []; same = tt; possible = tt; unrefused = λ users u c s. refl; follows = subst (λ u. Follows u v) (sym h) f }
  steps (e ∷ events) w w' v f h =
      let one = step w h.0 v e f h.1 in
      let rest = steps events h.0 w' (occurs cfg v one.event) one.follows h.2 in
      record {
        taken = one.event ∷ rest.taken;
        same = (one.same, rest.same);
        possible = (one.can, rest.possible);
        unrefused = λ users u c s.
            ap (λ o. option_or o (first_refusal (stepped u one.event) rest.taken))
            (ap (λ (k : Config A). step_refusal k u.service one.event) c ∙ ap (λ x. step_refusal cfg x one.event) s ∙ ap (λ o. option_or o (user_refusal cfg one.event)) one.can ∙ one.unrefused users)
            ∙ rest.unrefused users (stepped u one.event) c (ap (λ (k : Config A). occurs k u.service one.event) c ∙ ap (λ x. occurs cfg x one.event) s);
        follows = rest.follows;
      }
