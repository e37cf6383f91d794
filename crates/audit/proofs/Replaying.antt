-- The node of a log, as inputs come to it.
use Rattle.std.proofs.Common.{◌≡◌, [], ◌∷◌, Bool, true, false, Option, Some, None, refl, sym, ap, ◌∙◌, subst, cond}
use Rattle.std.specs.Prelude.{is_some, is_none, not, ◌&&◌, ◌||◌, IfSome}
use Rattle.std.specs.List.{list_any}
use Rattle.std.proofs.lemmas.Bool.{true≢false, or_right, and_parts}
use Rattle.std.proofs.lemmas.List.Folds.{list_any-append}
use Rattle.maildrop.specs.CommandId.{CommandId}
use Rattle.maildrop.specs.Name.{are_different}
use Rattle.maildrop.specs.declared.outcome.Outcome.{Outcome}
use Rattle.node.specs.Nodes.{NodeValue, can_begin, opened, logged, answer_of, answered, answer_after, left_after, stops_after}
use Rattle.node.specs.Replay.{is_crash, sends_of, sent_from, acts, replayed}
use Rattle.ballot.specs.Sends.{stays}
use Rattle.node.specs.declared.input.Input.{Input}
use Rattle.node.specs.declared.input.Input.TheVariants.{Submit, Arrive, Tick, Campaign, Crash}
use Rattle.node.specs.declared.log.NodeLog.{NodeLog}
use Rattle.node.specs.declared.log.Opening.{Opening}
use Rattle.node.specs.declared.stopped.Stopped.{Stopped}
use Rattle.audit.specs.Nodes.{log_shown, state_shown, unless_stopped, Runs, RunsUnlessStopped, begun, is_plain}
use Rattle.audit.specs.Replays.{Replay, after, sends, runs, answer}
use Rattle.audit.proofs.Calls.{answers_stay, nothing_last}

both_on : (s t : Bool) → t ≡ true → not s ≡ (not s && t)
both_on true t e = refl
both_on false t e = sym e

module _ {A : Type 0} where
  -- the node that a log begins with
  pub began : (o : Opening A) (node : Option (NodeValue A)) → are_different o.names ≡ true → is_some node ≡ can_begin o.me o.cluster o.window → IfSome node (λ n. n ≡ opened o)
      → (state_shown node false ≡ begun true o) × RunsUnlessStopped node
  began o None names fit is = (
    sym (ap (λ t. cond ((t && can_begin o.me o.cluster o.window) && true) (Some (record { opening = o; inputs = [] })) None) names
        ∙ ap (λ t. cond (t && true) (Some (record { opening = o; inputs = [] })) None) (sym fit)),
    tt,
  )
  began o (Some n) names fit is = (
    ap (λ (m : NodeValue A). unless_stopped m.stopped m.log) is
        ∙ sym (ap (λ t. cond ((t && can_begin o.me o.cluster o.window) && true) (Some (record { opening = o; inputs = [] })) None) names
        ∙ ap (λ t. cond (t && true) (Some (record { opening = o; inputs = [] })) None) (sym fit)),
    λ _. subst Runs (sym is) (record { up = refl; uncrashed = refl; answers = λ id. refl }),
  )

  pub none_began : (o : Opening A) → are_different o.names ≡ false → state_shown None false ≡ begun true o
  none_began o names =
      sym (ap (λ t. cond ((t && can_begin o.me o.cluster o.window) && true) (Some (record { opening = o; inputs = [] })) None) names)

  pub none_first : (o : Opening A) → state_shown None false ≡ begun false o
  none_first o =
      go (are_different o.names && can_begin o.me o.cluster o.window)
    where
      go : (t : Bool) → ◌≡◌ {A = Replay A} None (cond (t && false) (Some (record { opening = o; inputs = [] })) None)
      go true = refl
      go false = refl

  -- a crash takes no answer away
  crash_stays : (log : NodeLog A) (id : CommandId) → answered (logged log Crash) id ≡ answered log id
  crash_stays log id =
      nothing_last log Crash id (list_any-append is_crash log.inputs (Crash ∷ []) ∙ or_right (list_any is_crash log.inputs) true refl)

  pub shown_up : (node : NodeValue A) (crashed : Bool) → node.stopped ≡ None → state_shown (Some node) crashed ≡ Some (log_shown crashed node.log)
  shown_up node crashed up = ap (λ s. unless_stopped s (log_shown crashed node.log)) up

  shown_stopped : (node : NodeValue A) (crashed : Bool) (stop : Stopped) → node.stopped ≡ Some stop → state_shown (Some node) crashed ≡ None
  shown_stopped node crashed stop e = ap (λ s. unless_stopped s (log_shown crashed node.log)) e

  pub answer_of_log : (log : NodeLog A) (crashed : Bool) (id : CommandId) → answered log id ≡ answer (Some (log_shown crashed log)) id
  answer_of_log log false id = refl
  answer_of_log log true id = sym (crash_stays log id)

  pub answer_shown : (node : NodeValue A) (crashed : Bool) (id : CommandId) (held : Bool) → (node.stopped ≡ None → Runs node) → held ≡ is_some (answer_of id node.awaited) → IfSome node.stopped (λ _. held ≡ false)
      → held ≡ is_some (answer (state_shown (Some node) crashed) id)
  answer_shown node crashed id held run value none =
      go node.stopped refl none
    where
      go : (s : Option Stopped) → node.stopped ≡ s → IfSome s (λ _. held ≡ false) → held ≡ is_some (answer (state_shown (Some node) crashed) id)
      go None e n =
          value ∙ ap is_some ((run e).answers id ∙ answer_of_log node.log crashed id) ∙ sym (ap (λ s. is_some (answer s id)) (shown_up node crashed e))
      go (Some stop) e n = n ∙ sym (ap (λ s. is_some (answer s id)) (shown_stopped node crashed stop e))

  runs_of_log : (log : NodeLog A) (crashed : Bool) → list_any is_crash log.inputs ≡ false → runs (Some (log_shown crashed log)) ≡ not crashed
  runs_of_log log false run = ap not run
  runs_of_log log true run = ap not (list_any-append is_crash log.inputs (Crash ∷ []) ∙ or_right (list_any is_crash log.inputs) true refl)

  pub runs_shown : (node : NodeValue A) (crashed : Bool) → (node.stopped ≡ None → Runs node) → (not crashed && is_none node.stopped) ≡ runs (state_shown (Some node) crashed)
  runs_shown node crashed run =
      go node.stopped refl
    where
      go : (s : Option Stopped) → node.stopped ≡ s → (not crashed && is_none s) ≡ runs (state_shown (Some node) crashed)
      go None e = sym (both_on crashed true refl) ∙ sym (runs_of_log node.log crashed (run e).uncrashed) ∙ sym (ap runs (shown_up node crashed e))
      go (Some stop) e = no (not crashed) ∙ sym (ap runs (shown_stopped node crashed stop e))
        where
          no : (t : Bool) → (t && false) ≡ false
          no true = refl
          no false = refl

  pub crash_sends : (log : NodeLog A) → sends_of log Crash ≡ []
  crash_sends log =
      go (list_any is_crash log.inputs)
    where
      go : (t : Bool) → sent_from log.opening.me (cond t (stays (replayed log)) (acts log.opening.me log.inputs (replayed log) Crash)).sends ≡ []
      go true = refl
      go false = refl

  -- with an answer for each that the log has got, a step leaves them so
  left_is : (before after now : Option (Outcome A)) → now ≡ before → ((v : Outcome A) → before ≡ Some v → after ≡ Some v) → left_after now before after ≡ after
  left_is None after None e stay = refl
  left_is None after (Some v) e stay = absurd (cc)
  left_is (Some w) after None e stay = absurd (cc)
  left_is (Some w) after (Some v) e stay =
      let same : v ≡ w = cc in
      sym (stay v (ap (λ z. Some z) (sym same)))

  -- a step that isn't a crash leaves a node that runs
  pub stepped : (old new : NodeValue A) (input : Input A) → Runs old → stops_after input ≡ None → list_any is_crash (input ∷ []) ≡ false → new.log ≡ logged old.log input → new.stopped ≡ stops_after input
      → (stops_after input ≡ None → (id : CommandId) → answer_of id new.awaited ≡ answer_after old.log input id (answer_of id old.awaited)) → Runs new
  stepped old new input run stops plain log stopped answers =
      record {
        up = stopped ∙ stops;
        uncrashed = ap (λ (l : NodeLog A). list_any is_crash l.inputs) log ∙ list_any-append is_crash old.log.inputs (input ∷ []) ∙ ap (λ t. t || list_any is_crash (input ∷ [])) run.uncrashed ∙ plain;
        answers = λ id. answers stops id ∙ left_is (answered old.log id) (answered (logged old.log input) id) (answer_of id old.awaited) (run.answers id) (answers_stay old.log input id) ∙ ap (λ (l : NodeLog A). answered l id) (sym log);
      }

  pub plain_stops : (input : Input A) → is_plain input ≡ true → (stops_after input ≡ None) × (list_any is_crash (input ∷ []) ≡ false)
  plain_stops (Submit name op) h = (refl, refl)
  plain_stops (Arrive e) h = (refl, refl)
  plain_stops Tick h = (refl, refl)
  plain_stops Campaign h = (refl, refl)
  plain_stops Crash h = absurd (true≢false (sym h))

  -- a node that runs is up, and hasn't crashed
  pub up_and_plain : (node : NodeValue A) (crashed : Bool) → (node.stopped ≡ None → Runs node) → runs (state_shown (Some node) crashed) ≡ true → Runs node × (crashed ≡ false)
  up_and_plain node crashed run up =
      let both = and_parts (not crashed) (is_none node.stopped) (runs_shown node crashed run ∙ up) in
      (run (none_is node.stopped both.1), not_is crashed both.0)
    where
      none_is : (s : Option Stopped) → is_none s ≡ true → s ≡ None
      none_is None e = refl
      none_is (Some stop) e = absurd (true≢false (sym e))

      not_is : (t : Bool) → not t ≡ true → t ≡ false
      not_is true e = absurd (true≢false (sym e))
      not_is false e = refl

  -- after a step, or a crash, the state is the one that the input leads to
  pub taken : (old new : NodeValue A) (crashed : Bool) (input : Input A) → Runs old → Runs new → crashed ≡ false → new.log ≡ logged old.log input → state_shown (Some new) crashed ≡ after (state_shown (Some old) crashed) input
  taken old new crashed input before now up log =
      ap (λ t. state_shown (Some new) t) up ∙ shown_up new false now.up ∙ ap Some log ∙ sym (ap (λ s. after s input) (ap (λ t. state_shown (Some old) t) up ∙ shown_up old false before.up))

  pub sent_of : (old : NodeValue A) (crashed : Bool) (input : Input A) → Runs old → crashed ≡ false → sends (state_shown (Some old) crashed) input ≡ sends_of old.log input
  sent_of old crashed input before up = ap (λ s. sends s input) (ap (λ t. state_shown (Some old) t) up ∙ shown_up old false before.up)

  pub crashed_now : (node : Option (NodeValue A)) (crashed : Bool) → RunsUnlessStopped node → runs (state_shown node crashed) ≡ true → (state_shown node true ≡ after (state_shown node crashed) Crash) × (sends (state_shown node crashed) Crash ≡ [])
  crashed_now None crashed run up = absurd (true≢false (sym up))
  crashed_now (Some node) crashed run up =
      let p = up_and_plain node crashed run up in
      (shown_up node true p.0.up ∙ sym (ap (λ s. after s Crash) (ap (λ t. state_shown (Some node) t) p.1 ∙ shown_up node false p.0.up)), sent_of node crashed Crash p.0 p.1 ∙ crash_sends node.log)

  pub plain_unless : (input : Input A) → (input ≡ Crash → ⊥) → is_plain input ≡ true
  plain_unless (Submit name op) h = refl
  plain_unless (Arrive e) h = refl
  plain_unless Tick h = refl
  plain_unless Campaign h = refl
  plain_unless Crash h = absurd (h refl)
