-- What an event leaves to be heard, and that the index of sessions that await an answer is right again after it.
use Rattle.std.proofs.Common.{◌≡◌, ℕ, zero, suc, ◌<◌, List, [], ◌∷◌, ◌++◌, Bool, true, false, Option, Some, None, refl, sym, ap, ◌∙◌, subst, inl, inr, ⊎_elim, arith, length, drop, replicate, get_or}
use Rattle.std.specs.Prelude.{◌⊎◌, ◌||◌, Result, Ok, Err, OnOk, OnErr, slice_get, is_some, not}
use Rattle.std.specs.List.{list_any}
use Rattle.std.proofs.lemmas.List.Folds.{list_any-append}
use Rattle.std.proofs.lemmas.Option.{slice_get_within, slice_get-get_or}
use Rattle.maildrop.specs.CommandId.{CommandId}
use Rattle.maildrop.specs.declared.command.Command.{Command}
use Rattle.maildrop.specs.declared.outcome.Outcome.{Outcome}
use Rattle.node.specs.Nodes.{answered, lengthened}
use Rattle.node.specs.Replay.{is_crash, mail_rules, replayed}
use Rattle.node.specs.declared.input.Input.{Input}
use Rattle.node.specs.declared.log.NodeLog.{NodeLog}
use Rattle.node.specs.declared.log.Opening.{Opening}
use Rattle.node.proofs.Answering.{answered_here}
use Rattle.node.proofs.News.{longer_brings}
use Rattle.runs.specs.Clients.{Client, client_of}
use Rattle.world.specs.Connections.{AreFit, AreUntaken, awaited_by, service_of}
use Rattle.world.specs.Hosts.{Host, Hosts, HasAnswerAt, logs_of, network_of}
use Rattle.runs.specs.Interrupted.{IsAddresseeCrashed, IsInterrupted, IsItsCrashed}
use Rattle.world.specs.Kept.{IsKept, collected_by, new_hosts}
use Rattle.runs.specs.Messages.{Network, is_up, log_of}
use Rattle.runs.specs.Refusals.{refusal_of}
use Rattle.runs.specs.Services.{Service, Happening, Occurs, Lost, happens, occurs}
use Rattle.world.specs.Waiting.{Waiting, MayHave, IsBehind, IsUnheard, IsUpToDate, KeepsOthersOf, is_of}
use Rattle.runs.specs.declared.config.Config.{Config}
use Rattle.world.specs.declared.connection.Connection.{Connection}
use Rattle.runs.specs.declared.event.Event.{Event}
use Rattle.runs.specs.declared.event.Event.TheVariants as event
use Rattle.runs.specs.declared.sent.Sent.{Sent}
use Rattle.world.proofs.Awaiting.{AreNumbered, happen_logs}
use Rattle.world.proofs.Keeping.{begun_logs, kept_after, kept_cut, kept_untaken}
use Rattle.runs.proofs.Logs.{new_log, some_same}
use Rattle.runs.proofs.ServiceRuns.{Follows, happens_follows}
use Rattle.world.proofs.WholeRuns.{happen_count}

drop_front : {X : Type 0} (xs ys : List X) → drop (length xs) (xs ++ ys) ≡ ys
drop_front [] ys = refl
drop_front (x ∷ xs) ys = drop_front xs ys

zeros_at : (n k : ℕ) → k < n → slice_get {X = ℕ} (replicate n 0) k ≡ Some 0
zeros_at zero k low = absurd (omega (arith, low))
zeros_at (suc n) zero low = refl
zeros_at (suc n) (suc k) low = zeros_at n k (omega (arith, low))

zeros_count : (n : ℕ) → length {A = ℕ} (replicate n 0) ≡ n
zeros_count zero = refl
zeros_count (suc n) = let rest = zeros_count n in omega (arith, rest)

module _ {A : Type 0} where
  -- What happens to the nodes of a service goes on from where they were

  module _ (cfg : Config A) (w later : Service A) where
    moved_follows : (h : Happening A) → later ≡ happens cfg w h → Follows w later
    moved_follows h moved = subst (Follows w) (sym moved) (happens_follows w cfg h)

    its_follows : (c : Option (Client A)) → IsItsCrashed cfg c w later → Follows w later
    its_follows None cut = absurd cut
    its_follows (Some c) cut = moved_follows (Occurs (event.Crash c.node)) cut

    addressee_follows : (s : Option (Sent A)) → IsAddresseeCrashed cfg s w later → Follows w later
    addressee_follows None cut = absurd cut
    addressee_follows (Some s) cut = moved_follows (Occurs (event.Crash s.envelope.to)) cut

    cut_follows : (e : Event A) → IsInterrupted cfg e w later → Follows w later
    cut_follows (event.Connect session node stamp) cut = ([], ap (λ (x : Service A). x.network) cut)
    cut_follows (event.Line session line) (inl lost) = moved_follows (Lost session) lost
    cut_follows (event.Line session line) (inr crashed) = its_follows (client_of session w.clients) crashed
    cut_follows (event.Hangup session) cut = its_follows (client_of session w.clients) cut
    cut_follows (event.Collect session) cut = moved_follows (Lost session) cut
    cut_follows (event.Mail node user text key) cut = moved_follows (Occurs (event.Crash node)) cut
    cut_follows (event.Break node user) cut = moved_follows (Occurs (event.Crash node)) cut
    cut_follows (event.Arrive which) cut = addressee_follows (slice_get w.network.sent which) cut
    cut_follows (event.Tick node) cut = moved_follows (Occurs (event.Crash node)) cut
    cut_follows (event.Campaign node) cut = moved_follows (Occurs (event.Crash node)) cut
    cut_follows (event.Crash node) cut = moved_follows (Occurs (event.Crash node)) cut

  -- where a log stands, it stood, and was a front of it
  pub record WasLog (w : Network A) (place : ℕ) (log : NodeLog A) : Type 0 where
    pub old : NodeLog A
    pub more : List (Input A)
    pub at : slice_get w.logs place ≡ Some old
    pub longer : log ≡ lengthened old more

  pub was_log : (w later : Service A) → Follows w later → (place : ℕ) (log : NodeLog A) → slice_get later.network.logs place ≡ Some log → WasLog w.network place log
  was_log w later follows place log at =
      let low = slice_get_within later.network.logs place log at in
      let count : length later.network.logs ≡ length w.network.logs = ap (λ (n : Network A). length n.logs) follows.1 ∙ happen_count w.network follows.0 in
      let within : place < length w.network.logs = omega (arith, low, count) in
      let old : NodeLog A = get_or w.network.logs place log in
      let there : slice_get w.network.logs place ≡ Some old = slice_get-get_or w.network.logs place log within in
      let more = happen_logs w.network follows.0 (suc place) old there in
      record {
        old = old;
        more = more.0;
        at = there;
        longer = some_same log (lengthened old more.0) (sym at ∙ ap (λ (n : Network A). slice_get n.logs place) follows.1 ∙ more.1);
      }

  pub was_up : (old : NodeLog A) (more : List (Input A)) → is_up (Some (lengthened old more)) ≡ true → is_up (Some old) ≡ true
  was_up old more up =
      go (list_any is_crash old.inputs) (sym (ap not (list_any-append is_crash old.inputs more)) ∙ up)
    where
      go : (t : Bool) → not (t || list_any is_crash more) ≡ true → not t ≡ true
      go true e = absurd (cc e)
      go false e = refl

  the_answer : (o : Option (Outcome A)) → is_some o ≡ true → (answer : Outcome A) × (o ≡ Some answer)
  the_answer None some = absurd (cc some)
  the_answer (Some answer) some = (answer, refl)

  pub at_its_place : (n : ℕ) (logs : List (NodeLog A)) (log : NodeLog A) → log_of n logs ≡ Some log → (k : ℕ) × (n ≡ suc k) × (slice_get logs k ≡ Some log)
  at_its_place zero logs log at = absurd (cc at)
  at_its_place (suc k) logs log at = (k, refl, at)

  -- What an event leaves to be heard

  module _ (hosts hosts2 : Hosts A) (es es2 : List (ℕ × Connection A)) (w w2 : Waiting) (session : Option ℕ) (current : IsUpToDate hosts es w) (same : w2 ≡ w) (others : KeepsOthersOf session es es2)
      (numbered : AreNumbered (service_of hosts es)) (follows : Follows (service_of hosts es) (service_of hosts2 es2)) where
    was_there : (place : ℕ) (e : ℕ × Connection A) → slice_get es2 place ≡ Some e → (is_of session es2 place → ⊥) → slice_get es place ≡ Some e
    was_there place e at apart =
        go session others apart
      where
        go : (s : Option ℕ) → KeepsOthersOf s es es2 → (is_of s es2 place → ⊥) → slice_get es place ≡ Some e
        go None kept apart = ap (λ xs. slice_get xs place) (sym kept) ∙ at
        go (Some s) kept apart = kept.each place e at apart

    still : (place : ℕ) (e : ℕ × Connection A) (id : CommandId) (log : NodeLog A) → slice_get es place ≡ Some e → awaited_by e.1.standing ≡ Some id
        → log_of e.1.node (network_of hosts2).logs ≡ Some log → is_up (Some log) ≡ true → is_some (answered log id) ≡ true → MayHave w place ⊎ IsUnheard hosts2 w id
    still place e id log at waits log_at up some =
        let here = at_its_place e.1.node (network_of hosts2).logs log log_at in
        let was = was_log (service_of hosts es) (service_of hosts2 es2) follows here.0 log here.2 in
        let old_up : is_up (Some was.old) ≡ true = was_up was.old was.more (ap (λ (l : NodeLog A). is_up (Some l)) (sym was.longer) ∙ up) in
        let old_at : log_of e.1.node (network_of hosts).logs ≡ Some was.old = ap (λ n. log_of n (network_of hosts).logs) here.1 ∙ was.at in
        let brought = longer_brings was.old was.more in
        let answer = the_answer (answered log id) some in
        let opens : log.opening ≡ was.old.opening = ap (λ (l : NodeLog A). l.opening) was.longer in
        ⊎_elim
        (λ (before : is_some (answered was.old id) ≡ true). inl (current.there place e id was.old at waits old_at old_up before))
        (λ (new : has_new was id). inr (record {
          node = here.0;
          its = answered_here log id answer.0 answer.1 ∙ ap (λ (o : Opening A). o.me) opens ∙ numbered e.1.node was.old old_at ∙ here.1;
          log = log;
          at = here.2;
          up = up;
          count = length (replayed was.old).replica.performed;
          heard = current.heard here.0 was.old was.at old_up;
          among = ap (λ (l : NodeLog A). has_id id (drop (length (replayed was.old).replica.performed) (replayed l).replica.performed)) was.longer
              ∙ ap (λ ps. has_id id (drop (length (replayed was.old).replica.performed) ps)) brought.performed
              ∙ ap (has_id id) (drop_front (replayed was.old).replica.performed brought.more) ∙ new;
        }))
        (brought.answers id (ap (λ (l : NodeLog A). is_some (answered l id)) (sym was.longer) ∙ some))
      where
        has_id : CommandId → List (ℕ × Command A) → Bool
        has_id id ps = Rattle.replica.specs.Replicas.has_identity mail_rules id ps

        has_new : {k : ℕ} {l : NodeLog A} → WasLog (network_of hosts) k l → CommandId → Type 0
        has_new was id = has_id id (longer_brings was.old was.more).more ≡ true

    pub event_behind : IsBehind (is_of session es2) hosts2 es2 w2
    event_behind =
        subst (λ x. IsBehind (is_of session es2) hosts2 es2 x) (sym same)
        (record {
          nodes = current.nodes ∙ sym (ap (λ (n : Network A). length n.logs) follows.1 ∙ happen_count (network_of hosts) follows.0);
          watched = λ place e id at apart waits. current.watched place e id (was_there place e at apart) waits;
          there = λ place e id log at apart waits log_at up some. still place e id log (was_there place e at apart) waits log_at up some;
        })

  -- What holds after an event, or a part of it

  module _ (cfg : Config A) (hosts hosts2 : Hosts A) (es es2 : List (ℕ × Connection A)) (ops : List (CommandId × Bool)) (kept : IsKept cfg hosts es ops) (fit : AreFit es2) (e : Event A)
      (possible : refusal_of (service_of hosts es) e ≡ None) (stays : (n : ℕ) (id : CommandId) → (collected_by es e ≡ Some id → ⊥) → HasAnswerAt n id hosts → HasAnswerAt n id hosts2) where
    pub acted_untaken : {E : Type 0} (r : Result (Unit {0}) E) → OnOk r (service_of hosts2 es2 ≡ occurs cfg (service_of hosts es) e) → OnErr r (IsInterrupted cfg e (service_of hosts es) (service_of hosts2 es2)) → AreUntaken hosts2 es2
    acted_untaken (Ok u) done failed = kept_untaken cfg hosts2 es2 _ (kept_after cfg hosts hosts2 es es2 ops kept fit e possible done stays)
    acted_untaken (Err error) done failed = kept_untaken cfg hosts2 es2 ops (kept_cut cfg hosts hosts2 es es2 ops kept fit e possible failed stays)

    pub acted_follows : {E : Type 0} (r : Result (Unit {0}) E) → OnOk r (service_of hosts2 es2 ≡ occurs cfg (service_of hosts es) e) → OnErr r (IsInterrupted cfg e (service_of hosts es) (service_of hosts2 es2)) → Follows (service_of hosts es) (service_of hosts2 es2)
    acted_follows (Ok u) done failed = moved_follows cfg (service_of hosts es) (service_of hosts2 es2) (Occurs e) done
    acted_follows (Err error) done failed = cut_follows cfg (service_of hosts es) (service_of hosts2 es2) e failed

  -- if only answers were taken
  pub taken_current : (hosts hosts2 : Hosts A) (es : List (ℕ × Connection A)) (w : Waiting) → network_of hosts2 ≡ network_of hosts → IsUpToDate hosts es w → IsUpToDate hosts2 es w
  taken_current hosts hosts2 es w same current =
      record {
        nodes = current.nodes ∙ ap (λ (n : Network A). length n.logs) (sym same);
        watched = current.watched;
        there = λ place e id log at waits log_at up some. current.there place e id log at waits (ap (λ (n : Network A). log_of e.1.node n.logs) (sym same) ∙ log_at) up some;
        heard = λ node log at up. current.heard node log (ap (λ (n : Network A). slice_get n.logs node) (sym same) ∙ at) up;
      }

  -- A world that begins

  pub begun_current : (first : Opening A) (m : ℕ) (list : List (Host A)) (hosts : Hosts A) (es : List (ℕ × Connection A)) (w : Waiting) → list ≡ new_hosts first 1 m → hosts ≡ record { hosts = list; sent = [] } → es ≡ []
      → w.heard ≡ replicate (length list) 0 → IsUpToDate hosts es w
  begun_current first m list hosts es w all is nobody zeros =
      record {
        nodes = ap length zeros ∙ zeros_count (length list) ∙ sym (ap (λ (h : Hosts A). length (logs_of h.hosts)) is ∙ logs_count list);
        watched = λ place e id at waits. absurd (cc (sym (ap (λ xs. slice_get xs place) nobody) ∙ at));
        there = λ place e id log at waits log_at up some. absurd (cc (sym (ap (λ xs. slice_get xs place) nobody) ∙ at));
        heard = λ node log at up.
            let there : slice_get (logs_of list) node ≡ Some log = ap (λ (h : Hosts A). slice_get (logs_of h.hosts) node) (sym is) ∙ at in
            let its = new_log first 1 m node log (ap (λ ls. slice_get ls node) (sym (ap logs_of all ∙ begun_logs first 1 m)) ∙ there) in
            let low = slice_get_within (logs_of list) node log there in
            ap (λ hs. slice_get hs node) zeros ∙ zeros_at (length list) node (let count = logs_count list in omega (arith, low, count)) ∙ ap (λ (l : NodeLog A). Some (length (replayed l).replica.performed)) its;
      }
    where
      logs_count : (hs : List (Host A)) → length (logs_of hs) ≡ length hs
      logs_count [] = refl
      logs_count (h ∷ hs) = let rest = logs_count hs in omega (arith, rest)
