-- A legal order is a run.
use Rattle.std.proofs.Common.{◌≡◌, ℕ, zero, suc, ◌<◌, ◌≤◌, length, take, List, [], ◌∷◌, ◌++◌, map, true, Option, Some, None, refl, sym, ap, ◌∙◌, subst, ⊎_elim, cond, arith}
use Rattle.std.specs.Prelude.{Result, Ok, Err, IfOk, slice_get, option_map, ◌&&◌, fold, IsSome}
use Rattle.std.specs.List.{concat}
use Rattle.std.proofs.lemmas.Bool.{eq-eqb, true≢false}
use Rattle.std.proofs.lemmas.List.{append-nil, take_all}
use Rattle.std.proofs.lemmas.Option.{slice_get-map}
use Rattle.apop.specs.Stamp.{Stamp}
use Rattle.maildrop.specs.CommandId.{CommandId}
use Rattle.maildrop.specs.declared.outcome.Outcome.{Outcome}
use Rattle.node.specs.declared.log.NodeLog.{NodeLog}
use Rattle.pop3_wire.specs.declared.line.Line.{Line}
use Rattle.session.specs.Prefix.{IsPrefix}
use Rattle.session.specs.Serve.{told}
use Rattle.session.specs.declared.transcript.Transcript.{Transcript}
use Rattle.session.proofs.AsAlone.{front_taken}
use Rattle.runs.specs.Clients.{Client, client_of}
use Rattle.runs.specs.Messages.{log_of}
use Rattle.runs.specs.Projection.{own_commands, alone_bytes}
use Rattle.runs.specs.Services.{Service, Happening, Occurs, new_service, opening_of, occurs, happens, run_of}
use Rattle.runs.specs.Settling.{ran}
use Rattle.runs.specs.Worlds.{World as Whole, new_world, stepped}
use Rattle.runs.specs.declared.config.Config.{Config}
use Rattle.runs.specs.declared.event.Event as run
use Rattle.runs.proofs.Logs.{new_log_of}
use Rattle.runs.proofs.Prefixes.{all_of, prefix_on}
use Rattle.runs.proofs.Projected.{every_projected}
use Rattle.audit.specs.Case.{next, after_next, state_at}
use Rattle.audit.specs.Order.{Awaited, Ends, NothingAwaited, SessionEnds, IsLegalOrder, opening}
use Rattle.audit.specs.Records.{place_of, inputs_in, number_in, begun_at, RealCase, case_of, AreFit}
use Rattle.audit.specs.Replays.{runs}
use Rattle.audit.specs.Runs.{AreOfService, AreItsLines, IsClientOf, IsRunOf, IsTaken, AreAllSaidAlone, line_tickets}
use Rattle.audit.specs.Turns.{Turns, turns_from, is_empty, script_of}
use Rattle.audit.specs.declared.event.Event.{Event}
use Rattle.audit.proofs.RunClients.{Goes, AwaitsMore, IsDone, StandsFor, StandsAs, at_end}
use Rattle.audit.proofs.RunNodes.{at_first}
use Rattle.audit.proofs.RunSteps.{OrderSession, OrderWorld, IsSession, AtNode, ByScript, Follows, steps}

-- lists
got_some : {X : Type 0} (xs : List X) (k : ℕ) → k < length xs → (x : X) × (slice_get xs k ≡ Some x)
got_some [] k below = absurd (omega (arith, below))
got_some (x ∷ xs) zero below = (x, refl)
got_some (x ∷ xs) (suc k) below = got_some xs k (omega (arith, below))

take_push : {X : Type 0} (xs : List X) (k : ℕ) (x : X) → slice_get xs k ≡ Some x → take (suc k) xs ≡ take k xs ++ x ∷ []
take_push [] k x e = absurd (cc)
take_push (y ∷ ys) zero x e = let same : y ≡ x = cc in ap (λ z. z ∷ []) same
take_push (y ∷ ys) (suc k) x e = ap (λ zs. y ∷ zs) (take_push ys k x e)

module _ {A : Type 0} (cfg : Config A) (stamps : ℕ → Stamp) (logs : List (NodeLog A)) (transcripts : List (Transcript A)) (happenings : List (Happening A)) where
  its_lines : (t : Transcript A) (lines : List Line) → AreItsLines t lines → IsPrefix lines t.lines
  its_lines t lines h =
      ⊎_elim
      (λ e. ([], append-nil lines ∙ sym e))
      (λ x. (x.0 ∷ [], sym x.1))
      h

  -- what sessions wrote and counted is said by a server that has the user's maildrop alone
  pub bytes_alone : IsRunOf cfg stamps logs transcripts (run_of cfg happenings) → AreAllSaidAlone cfg stamps transcripts (run_of cfg happenings)
  bytes_alone run i t written its greeting counted =
      let c = run.clients i t its greeting in (
        c.0,
        c.1,
        λ user is_user.
            prefix_on written c.0.replies (alone_bytes cfg c.0 user t.lines (line_tickets t.asked) (own_commands cfg (run_of cfg happenings) user))
            (prefix_on written (concat (told cfg.accounts (stamps i) t).replies) c.0.replies (front_taken cfg.accounts (stamps i) t written counted.said) c.2.replies)
            (every_projected cfg happenings (suc i) c.0 c.1 user t.lines (line_tickets t.asked) (own_commands cfg (run_of cfg happenings) user) is_user
            (its_lines t c.0.lines c.2.lines) ([], append-nil c.0.tickets ∙ c.2.tickets) (all_of (own_commands cfg (run_of cfg happenings) user))),
      )

module _ {A : Type 0} (cfg : Config A) (stamps : ℕ → Stamp) (logs : List (NodeLog A)) (transcripts : List (Transcript A)) (fit : AreFit logs transcripts) (service : AreOfService cfg stamps logs transcripts) where
  abbrev real : RealCase A
  real = case_of logs transcripts

  abbrev number_of : ℕ → ℕ
  number_of n = number_in (slice_get logs n)

  abbrev none_placed : ℕ → ℕ
  none_placed n = 0

  abbrev unborn : OrderSession A
  unborn = record { node = None; done = []; left = []; awaits = None }

  abbrev By : (ℕ → ℕ) → ℕ → OrderSession A → Option (Client A) → Option (Option (Turns A)) → Type 0
  By = ByScript cfg stamps logs transcripts fit service

  begun : Follows cfg stamps logs transcripts fit service (opening real) (new_service cfg)
  begun =
      record { nodes = at_first cfg logs transcripts fit service.openings; sessions = λ i. unborn_at i (slice_get real.scripts i) }
    where
      unborn_at : (i : ℕ) (script : Option (Option (Turns A))) → By none_placed i unborn None script
      unborn_at i None = (refl, refl)
      unborn_at i (Some None) = (refl, refl)
      unborn_at i (Some (Some turns)) = (refl, refl)

  -- Where the order ends

  -- the whole log
  front_at : (n : ℕ) (log : NodeLog A) → slice_get logs n ≡ Some log → (k : ℕ) → k ≤ length log.inputs → state_at real n k ≡ Some (record { opening = log.opening; inputs = take k log.inputs })
  front_at n log e zero most =
      let its = fit.openings n log e in
      ap (begun_at logs n) e ∙ rw (its.0, eq-eqb (place_of log.opening.me logs) n its.1) refl
  front_at n log e (suc k) most =
      let x = got_some log.inputs k most in
      let comes : next real n k ≡ Some x.0 = ap (λ o. slice_get (inputs_in o) k) e ∙ x.1 in
      ap (λ s. after_next real s (next real n k)) (front_at n log e k (omega (arith, most)))
      ∙ ap (after_next real (Some (record { opening = log.opening; inputs = take k log.inputs }))) comes
      ∙ ap (λ is. Some (record { opening = log.opening; inputs = is })) (sym (take_push log.inputs k x.0 x.1))

  whole_at : (n : ℕ) (log : NodeLog A) → slice_get logs n ≡ Some log → state_at real n (length (real.logs n)) ≡ Some log
  whole_at n log e =
      ap (λ o. state_at real n (length (inputs_in o))) e ∙ front_at n log e (length log.inputs) (omega arith)
      ∙ ap (λ is. Some (record { opening = log.opening; inputs = is })) (take_all (length log.inputs) log.inputs (omega arith))

  its_script : (i : ℕ) (t : Transcript A) → slice_get transcripts i ≡ Some t → (t.greeting ≡ [] → ⊥) → slice_get real.scripts i ≡ Some (Some (turns_from 0 t.lines t.asked))
  its_script i t e greeting =
      slice_get-map script_of transcripts i ∙ ap (option_map script_of) e ∙ ap (λ s. Some s) (go t.greeting greeting)
    where
      go : (bytes : List ℕ) → (bytes ≡ [] → ⊥) → cond (is_empty bytes && (is_empty t.lines && is_empty t.asked)) None (Some (turns_from 0 t.lines t.asked)) ≡ Some (turns_from 0 t.lines t.asked)
      go [] some = absurd (some refl)
      go (byte ∷ bytes) some = refl

  finished : (up : Type 0) (stamp : Stamp) (t : Transcript A) (left : Turns A) (awaits : Option (Awaited CommandId (Outcome A))) (c : Client A) → left ≡ [] → NothingAwaited real awaits → StandsAs cfg.accounts stamp t up left awaits c → IsDone cfg.accounts stamp t [] c
  finished up stamp t left None c e nothing h =
      ⊎_elim
      (λ (g : Goes cfg.accounts stamp t up [] c). at_end cfg.accounts stamp t up c g)
      (λ d. d)
      (subst (λ u. StandsAs cfg.accounts stamp t up u None c) e h)
  finished up stamp t left (Some y) c e nothing h =
      let m : AwaitsMore cfg.accounts stamp t up left y.key c = subst (StandsFor cfg.accounts stamp t up left y.key c) nothing h in
      subst (λ u. IsDone cfg.accounts stamp t u c) e m.over

  abbrev ItsClient : Service A → ℕ → Transcript A → Type 0
  ItsClient v i t = (c : Client A) × (client_of (suc i) v.clients ≡ Some c) × IsClientOf cfg (stamps i) t c

  found_client : (placed : ℕ → ℕ) (v : Service A) (i n : ℕ) (t : Transcript A) (left : Turns A) (awaits : Option (Awaited CommandId (Outcome A))) → slice_get transcripts i ≡ Some t → left ≡ [] → NothingAwaited real awaits
      → IsSession cfg stamps logs transcripts fit service placed i n left awaits (client_of (suc i) v.clients) → ItsClient v i t
  found_client placed v i n t left awaits its e nothing x =
      let some : Some x.transcript ≡ Some t = sym x.its ∙ its in
      let same : x.transcript ≡ t = cc in
      let d = finished (runs (state_at real n (placed n)) ≡ true) (stamps i) x.transcript left awaits x.client e nothing x.stands in
      (x.client, x.there, subst (λ u. IsClientOf cfg (stamps i) u x.client) same (record { greeted = x.greeted; lines = d.its_lines; tickets = d.its_tickets; replies = d.its_replies }))

  its_client : (w : OrderWorld A) (v : Service A) → Follows cfg stamps logs transcripts fit service w v → (i : ℕ) (t : Transcript A) → slice_get transcripts i ≡ Some t → (turns : Turns A) → slice_get real.scripts i ≡ Some (Some turns)
      → SessionEnds real (Some (Some turns)) (w.sessions i) → ItsClient v i t
  its_client w v f i t its turns script ends =
      go (w.sessions i).node ends.3 (subst (By w.placed i (w.sessions i) (client_of (suc i) v.clients)) script (f.sessions i))
    where
      go : (node : Option ℕ) → IsSome node → AtNode cfg stamps logs transcripts fit service w.placed i (w.sessions i) (client_of (suc i) v.clients) node → ItsClient v i t
      go None some h = absurd (true≢false (sym some))
      go (Some n) some h = found_client w.placed v i n t (w.sessions i).left (w.sessions i).awaits its ends.1 ends.2 h

  at_the_end : (w : OrderWorld A) (v : Service A) → Follows cfg stamps logs transcripts fit service w v → Ends real w → IsRunOf cfg stamps logs transcripts v
  at_the_end w v f ends = record {
    nodes = λ n log e.
        ap (λ o. log_of (number_in o) v.network.logs) (sym e) ∙ f.nodes.nodes n ∙ ap (state_at real n) (ends.0 n) ∙ whole_at n log e;
    others = λ number log none e. sym (ap (λ (l : NodeLog A). l.inputs) (new_log_of (opening_of cfg) cfg.cluster number log (sym (f.nodes.others number none) ∙ e)));
    clients = λ i t e greeting.
        let script = its_script i t e greeting in
        its_client w v f i t e (turns_from 0 t.lines t.asked) script (subst (λ s. SessionEnds real s (w.sessions i)) script (ends.1 i));
  }

  ran_occurs : (es : List (run.Event A)) (w : Whole A) → w.config ≡ cfg → (ran w es).service ≡ fold (occurs cfg) w.service es
  ran_occurs [] w c = refl
  ran_occurs (e ∷ es) w c = ran_occurs es (stepped w e) c ∙ ap (λ (k : Config A). fold (occurs cfg) (occurs k w.service e) es) c

  happened : (es : List (run.Event A)) (w : Service A) → fold (happens cfg) w (map (λ e. Occurs e) es) ≡ fold (occurs cfg) w es
  happened [] w = refl
  happened (e ∷ es) w = happened es (occurs cfg w e)

  -- the run in which these events happen
  as_run : (es : List (run.Event A)) → run_of cfg (map (λ e. Occurs e) es) ≡ (ran (new_world cfg) es).service
  as_run es = happened es (new_service cfg) ∙ sym (ran_occurs es (new_world cfg) refl)

  -- the service takes the order
  pub order_taken : (events : List Event) → IsLegalOrder real events → IsTaken cfg stamps logs transcripts events
  order_taken events legal =
      let order = legal.2 in
      let r = steps cfg stamps logs transcripts fit service events (opening real) order.0 (new_service cfg) begun order.1 in
      let leads : IsRunOf cfg stamps logs transcripts (ran (new_world cfg) r.taken).service =
      subst (IsRunOf cfg stamps logs transcripts) (sym (ran_occurs r.taken (new_world cfg) refl)) (at_the_end order.0 (fold (occurs cfg) (new_service cfg) r.taken) r.follows order.2) in
      record {
        taken = r.taken;
        same = r.same;
        possible = r.possible;
        unrefused = λ users. r.unrefused users (new_world cfg) refl refl;
        leads = leads;
        said = subst (AreAllSaidAlone cfg stamps transcripts) (as_run r.taken)
            (bytes_alone cfg stamps logs transcripts (map (λ e. Occurs e) r.taken) (subst (IsRunOf cfg stamps logs transcripts) (sym (as_run r.taken)) leads));
      }

  pub order_run : (events : List Event) → IsLegalOrder real events → (happenings : List (Happening A)) × IsRunOf cfg stamps logs transcripts (run_of cfg happenings)
  order_run events legal =
      let t = order_taken events legal in
      (map (λ e. Occurs e) t.taken, subst (IsRunOf cfg stamps logs transcripts) (sym (as_run t.taken)) t.leads)

module _ {A T E : Type 0} (logs : List (NodeLog A)) (transcripts : List (Transcript A)) (items : T → List Event) where
  -- whoever found a legal order found one that the service takes
  pub found_taken : (r : Result T E) → (AreFit logs transcripts → IfOk r (λ x. IsLegalOrder (case_of logs transcripts) (items x)))
      → IfOk r (λ x. (cfg : Config A) (stamps : ℕ → Stamp) → AreFit logs transcripts → AreOfService cfg stamps logs transcripts → IsTaken cfg stamps logs transcripts (items x))
  found_taken (Ok x) h = λ cfg stamps fit service. order_taken cfg stamps logs transcripts fit service (items x) (h fit)
  found_taken (Err e) h = tt
