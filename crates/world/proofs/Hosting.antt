-- A node and its log as a run knows it.
use Rattle.std.proofs.Common.{◌≡◌, ℕ, List, [], ◌∷◌, ◌++◌, Bool, true, false, Option, Some, None, refl, sym, ap, ◌∙◌, cond}
use Rattle.std.specs.List.{list_any}
use Rattle.std.specs.Prelude.{not, ◌||◌}
use Rattle.std.proofs.lemmas.List.{append-nil}
use Rattle.std.proofs.lemmas.List.Folds.{list_any-append}
use Rattle.maildrop.specs.CommandId.{CommandId}
use Rattle.maildrop.specs.declared.outcome.Outcome.{Outcome}
use Rattle.node.specs.Nodes.{NodeValue, answer_of, answered, answer_after, left_after, logged, stops_after, IsKnown}
use Rattle.node.specs.Replay.{NodeState, NodeMove, is_crash, replayed, sends_of, takes}
use Rattle.ballot.specs.Sends.{stays}
use Rattle.node.specs.Tickets.{CanStop}
use Rattle.node.specs.declared.input.Input.{Input}
use Rattle.node.specs.declared.input.Input.TheVariants.{Submit, Arrive, Tick, Campaign, Crash}
use Rattle.node.specs.declared.log.NodeLog.{NodeLog}
use Rattle.node.specs.declared.stopped.Stopped.{Stopped}
use Rattle.node.specs.declared.stopped.Stopped.TheVariants.{Crashed, Memory, TicketsUsed}
use Rattle.node.proofs.Kept.{crash-push}
use Rattle.node.proofs.Replaying.{replayed-push}
use Rattle.world.specs.Hosts.{Host, has_crashed, known_log, crashed_instead, host_of, IsLoggedSo, HasAnswer, without_last, log_after, sent_after}
use Rattle.runs.specs.Messages.{is_up, newly_sent}
use Rattle.runs.specs.declared.sent.Sent.{Sent}
use Rattle.world.proofs.AnswersStay.{all_left}

without_last-push : {X : Type 0} (xs : List X) (x : X) → without_last (xs ++ x ∷ []) ≡ xs
without_last-push [] x = refl
without_last-push (y ∷ []) x = refl
without_last-push (y ∷ z ∷ zs) x = ap (λ ys. y ∷ ys) (without_last-push (z ∷ zs) x)

module _ {A : Type 0} where
  -- a log with a crash at its end is that of a node that is down
  crash_last : (is : List (Input A)) → list_any is_crash (is ++ Crash ∷ []) ≡ true
  crash_last is =
      list_any-append is_crash is (Crash ∷ []) ∙ go (list_any is_crash is)
    where
      go : (t : Bool) → (t || true) ≡ true
      go true = refl
      go false = refl

  pub crashed_down : (log : NodeLog A) → is_up (Some (logged log Crash)) ≡ false
  crashed_down log = ap not (crash_last log.inputs)

  pub down_has : (id : CommandId) (host : Host A) → is_up (Some host.log) ≡ false → HasAnswer id host
  down_has id host down up = absurd (cc)

  -- a node that is up runs, and its log is its own
  pub record IsRunning (node : NodeValue A) (is_cut : Bool) (host : Host A) : Type 0 where
    pub whole : is_cut ≡ false
    pub runs : node.stopped ≡ None
    pub log : node.log ≡ host.log
    pub awaited : node.awaited ≡ host.awaited
    pub no_crash : list_any is_crash node.log.inputs ≡ false
    pub uncrashed : host.crashed ≡ false

  pub running : (node : NodeValue A) (is_cut : Bool) (host : Host A) → IsLoggedSo node.stopped node.log → host_of node is_cut ≡ host → is_up (Some host.log) ≡ true → IsRunning node is_cut host
  running node true host h same up = absurd (cc (ap (λ (x : Host A). is_up (Some x.log)) same, crashed_down (record { opening = node.log.opening; inputs = without_last node.log.inputs })))
  running node false host h same up =
      go node.stopped refl h (ap (λ (x : Host A). x.log) same) up
    where
      go : (s : Option Stopped) → node.stopped ≡ s → IsLoggedSo s node.log → known_log s node.log ≡ host.log → is_up (Some host.log) ≡ true → IsRunning node false host
      go None e k its up = record { whole = refl; runs = e; log = its; awaited = ap (λ (x : Host A). x.awaited) same; no_crash = k; uncrashed = ap (λ (x : Host A). x.crashed) (sym same) ∙ ap has_crashed e }
      go (Some Crashed) e k its up = absurd (cc (ap (λ (l : NodeLog A). is_up (Some l)) its))
      go (Some Memory) e k its up = absurd (cc (ap (λ (l : NodeLog A). is_up (Some l)) its, crashed_down node.log))
      go (Some TicketsUsed) e k its up = absurd (cc (ap (λ (l : NodeLog A). is_up (Some l)) its, crashed_down node.log))

  -- it is logged so after a step
  logged_so : (log : NodeLog A) (i : Input A) → list_any is_crash log.inputs ≡ false → IsLoggedSo (stops_after i) (logged log i)
  logged_so log (Submit name op) e = crash-push log.inputs (Submit name op) e
  logged_so log (Arrive m) e = crash-push log.inputs (Arrive m) e
  logged_so log Tick e = crash-push log.inputs Tick e
  logged_so log Campaign e = crash-push log.inputs Campaign e
  logged_so log Crash e = crash_last log.inputs

  pub step_logged : (node later : NodeValue A) (i : Input A) → list_any is_crash node.log.inputs ≡ false → later.log ≡ logged node.log i → later.stopped ≡ stops_after i → IsLoggedSo later.stopped later.log
  step_logged node later i e log stops = rw (log, stops) (logged_so node.log i e)

  -- what a run knows after a step
  known_after : (log : NodeLog A) (i : Input A) → known_log (stops_after i) log ≡ log
  known_after log (Submit name op) = refl
  known_after log (Arrive m) = refl
  known_after log Tick = refl
  known_after log Campaign = refl
  known_after log Crash = refl

  pub step_log : (node later : NodeValue A) (host : Host A) (i : Input A) → node.log ≡ host.log → later.log ≡ logged node.log i → later.stopped ≡ stops_after i → (host_of later false).log ≡ logged host.log i
  step_log node later host i same log stops = rw (stops) (known_after later.log i) ∙ log ∙ ap (λ (l : NodeLog A). logged l i) same

  -- if there was no memory for the input, or for what it sent
  pub cut_log : (node later : NodeValue A) (host : Host A) (i : Input A) → node.log ≡ host.log → later.log ≡ logged node.log i → (host_of later true).log ≡ logged host.log Crash
  cut_log node later host i same log =
      ap crashed_instead log
      ∙ ap (λ (is : List (Input A)). logged (record { opening = node.log.opening; inputs = is }) Crash) (without_last-push node.log.inputs i)
      ∙ ap (λ (l : NodeLog A). logged l Crash) same

  -- if the step found no memory
  pub stopped_log : (node later : NodeValue A) (host : Host A) (used : Bool) (stop : Stopped) → node.log ≡ host.log → later ≡ record { log = node.log; stopped = Some stop; awaited = [] } → CanStop used stop
      → (host_of later false).log ≡ logged host.log Crash
  stopped_log node later host used Crashed same is can = absurd can
  stopped_log node later host used Memory same is can = ap (λ (x : NodeValue A). known_log x.stopped x.log) is ∙ ap (λ (l : NodeLog A). logged l Crash) same
  stopped_log node later host used TicketsUsed same is can = ap (λ (x : NodeValue A). known_log x.stopped x.log) is ∙ ap (λ (l : NodeLog A). logged l Crash) same

  -- a node that is up takes what comes
  pub goes_on : (log : NodeLog A) (i : Input A) → is_up (Some log) ≡ true → log_after log i ≡ logged log i
  goes_on log i up = rw (up) refl

  pub crashed_has : (id : CommandId) (log : NodeLog A) (host : Host A) → host.log ≡ logged log Crash → HasAnswer id host
  crashed_has id log host e = down_has id host (ap (λ (l : NodeLog A). is_up (Some l)) e ∙ crashed_down log)

  -- answers that are there stay, and those that come are there
  pub step_has : (node later : NodeValue A) (is_cut : Bool) (host : Host A) (i : Input A) → IsRunning node is_cut host → is_up (Some host.log) ≡ true → later.log ≡ logged node.log i → later.stopped ≡ stops_after i
      → (stops_after i ≡ None → (id : CommandId) → answer_of id later.awaited ≡ answer_after node.log i id (answer_of id node.awaited))
      → (id : CommandId) → HasAnswer id host → HasAnswer id (host_of later false)
  step_has node later is_cut host i r up log stops answers id has later_up =
      go i refl (answers)
    where
      its : (host_of later false).log ≡ logged host.log i
      its = step_log node later host i r.log log stops

      goes : stops_after i ≡ None → answer_of id later.awaited ≡ answered (host_of later false).log id
      goes e =
          answers e id
          ∙ ap (λ (o : Option (Outcome A)). left_after o (answered node.log id) (answered (logged node.log i) id)) (ap (answer_of id) r.awaited ∙ has up ∙ ap (λ (l : NodeLog A). answered l id) (sym r.log))
          ∙ all_left node.log i id
          ∙ ap (λ (l : NodeLog A). answered (logged l i) id) r.log
          ∙ ap (λ (l : NodeLog A). answered l id) (sym its)

      go : (j : Input A) → i ≡ j → (stops_after i ≡ None → (id : CommandId) → answer_of id later.awaited ≡ answer_after node.log i id (answer_of id node.awaited)) → answer_of id later.awaited ≡ answered (host_of later false).log id
      go (Submit name op) e a = goes (ap stops_after e)
      go (Arrive m) e a = goes (ap stops_after e)
      go Tick e a = goes (ap stops_after e)
      go Campaign e a = goes (ap stops_after e)
      go Crash e a = absurd (cc (later_up, ap (λ (l : NodeLog A). is_up (Some l)) (its ∙ ap (logged host.log) e), crashed_down host.log))

  -- a crash sends nothing, and what was performed stays
  crash_idle : (me : ℕ) (before : List (Input A)) (n : NodeState A) → ((takes me before n Crash).after ≡ n) × ((takes me before n Crash).sends ≡ [])
  crash_idle me before n =
      go (list_any is_crash before)
    where
      go : (t : Bool) → ((cond {A = NodeMove A} t (stays n) (stays n)).after ≡ n) × ((cond {A = NodeMove A} t (stays n) (stays n)).sends ≡ [])
      go true = (refl, refl)
      go false = (refl, refl)

  pub crash_sends : (log : NodeLog A) → sends_of log Crash ≡ []
  crash_sends log = rw ((crash_idle log.opening.me log.inputs (replayed log)).1) refl

  pub crash_sent : (log : NodeLog A) (sent : List (Sent A)) → sent_after log Crash sent ≡ sent
  crash_sent log sent =
      go (is_up (Some log))
    where
      go : (t : Bool) → cond t (sent ++ newly_sent (sends_of log Crash)) sent ≡ sent
      go true = rw (crash_sends log) (append-nil sent)
      go false = refl

  pub crash_replayed : (log : NodeLog A) → replayed (logged log Crash) ≡ replayed log
  crash_replayed log = replayed-push log Crash ∙ (crash_idle log.opening.me log.inputs (replayed log)).0

  -- what a node has performed, unless it has stopped without memory
  pub known_performed : (node : NodeValue A) → (node.stopped ≡ Some Memory → ⊥) → IsKnown node.stopped × ((replayed (host_of node false).log).replica.performed ≡ (replayed node.log).replica.performed)
  known_performed node known =
      go node.stopped refl
    where
      go : (s : Option Stopped) → node.stopped ≡ s → IsKnown s × ((replayed (known_log s node.log)).replica.performed ≡ (replayed node.log).replica.performed)
      go None e = (tt, refl)
      go (Some Crashed) e = (tt, refl)
      go (Some Memory) e = absurd (known e)
      go (Some TicketsUsed) e = (tt, ap (λ (n : NodeState A). n.replica.performed) (crash_replayed node.log))
