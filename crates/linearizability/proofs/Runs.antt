-- Each run of a service is linearizable, in the order that its nodes decide.
use Rattle.std.proofs.Common.{◌≡◌, ℕ, List, [], ◌∷◌, ◌++◌, Some, refl, sym, ap, ◌∙◌, subst}
use Rattle.std.specs.Prelude.{fold}
use Rattle.std.proofs.lemmas.List.Sums.{fold-append}
use Rattle.maildrop.specs.CommandId.{CommandId}
use Rattle.maildrop.specs.declared.command.Command.{Command}
use Rattle.maildrop.specs.declared.outcome.Outcome.{Outcome}
use Rattle.node.specs.Outcomes.{IsOutcomeOf}
use Rattle.node.specs.Submits.{IsSubmitted}
use Rattle.node.specs.declared.log.Opening.{Opening}
use Rattle.session.specs.Prefix.{IsPrefix}
use Rattle.runs.specs.Chosen.{chosen, IsChosen}
use Rattle.runs.specs.Decided.{without_gap}
use Rattle.runs.specs.Decisions.{WereSubmitted}
use Rattle.runs.specs.Messages.{NodeEvent, Network, new_network, after_node_events, network_of, envelopes, log_of}
use Rattle.runs.specs.Messages as network
use Rattle.runs.specs.Projection.{decided}
use Rattle.runs.specs.Runs.{order_of}
use Rattle.runs.specs.Services.{Service, Happening, opening_of, new_service, happens, run_of}
use Rattle.runs.specs.declared.config.Config.{Config}
use Rattle.runs.proofs.Decisions.{decided_submitted}
use Rattle.runs.proofs.Outcomes.{answer_own}
use Rattle.runs.proofs.Prefixes.{all_of, prefix_on}
use Rattle.runs.proofs.ServiceRuns.{AreOfRun, Follows, happens_follows}
use Rattle.runs.proofs.Serving.{every_service}
use Rattle.runs.proofs.Theorems.{stays_chosen, order_prefix}
use Rattle.linearizability.specs.Linearized.{IsAnswered, IsNew, StandsIn, Precedes, IsLinearized}
use Rattle.linearizability.proofs.Repeats.{each_once, stands_between, stands_as}

module _ {A : Type 0} where
  happen_then : (n : Network A) (early late : List (NodeEvent A)) → after_node_events n (early ++ late) ≡ after_node_events (after_node_events n early) late
  happen_then n [] late = refl
  happen_then n (e ∷ early) late = happen_then (network.after_node_event n e) early late

  -- the nodes of a service take part in a run of nodes, whatever happens
  goes_on : (cfg : Config A) (w : Service A) (happenings : List (Happening A)) → Follows w (fold (happens cfg) w happenings)
  goes_on cfg w [] = ([], refl)
  goes_on cfg w (h ∷ hs) =
      let first = happens_follows w cfg h in
      let then = goes_on cfg (happens cfg w h) hs in
      (first.0 ++ then.0, then.1 ∙ ap (λ n. after_node_events n then.0) first.1 ∙ sym (happen_then w.network first.0 then.0))

  -- what holds of the nodes of a run, and of those of every longer one once it does, holds of a longer run of the service
  stays : (P : Network A → Type 0) (cfg : Config A) →
      ((first more : List (NodeEvent A)) → P (network_of (opening_of cfg) first) → P (network_of (opening_of cfg) (first ++ more))) →
      (early late : List (Happening A)) → P (run_of cfg early).network → P (run_of cfg (early ++ late)).network
  stays P cfg keeps early late h =
      let w = run_of cfg early in
      let run = (every_service cfg early).nodes in
      let longer = goes_on cfg w late in
      subst (λ (x : Service A). P x.network) (sym (fold-append (happens cfg) (new_service cfg) early late))
      (subst P (sym (longer.1 ∙ ap (λ n. after_node_events n longer.0) run.1 ∙ sym (happen_then (new_network (opening_of cfg)) run.0 longer.0)))
      (keeps run.0 longer.0 (subst P run.1 h)))

  pub run_chosen : (cfg : Config A) (early late : List (Happening A)) (slot : ℕ) (c : Command A) →
      IsChosen cfg.cluster (envelopes (run_of cfg early).network) slot c →
      IsChosen cfg.cluster (envelopes (run_of cfg (early ++ late)).network) slot c
  run_chosen cfg early late slot c =
      stays (λ n. IsChosen cfg.cluster (envelopes n) slot c) cfg (λ first more. stays_chosen (opening_of cfg) first more slot c) early late

  pub run_grows : (cfg : Config A) (early late : List (Happening A)) →
      IsPrefix (decided cfg (run_of cfg early)) (decided cfg (run_of cfg (early ++ late)))
  run_grows cfg early late =
      let order = decided cfg (run_of cfg early) in
      stays (λ n. IsPrefix order (decided cfg (record { network = n; clients = [] }))) cfg
      (λ first more h.
      prefix_on order (order_of (opening_of cfg) first) (order_of (opening_of cfg) (first ++ more)) h (order_prefix (opening_of cfg) first more))
      early late (all_of order)

  answer_outcome : (cfg : Config A) (w : Service A) → AreOfRun cfg w → (id : CommandId) (answer : Outcome A) →
      IsAnswered w id answer → IsOutcomeOf (opening_of cfg) (decided cfg w) id answer
  answer_outcome cfg w run id answer is =
      let first = opening_of cfg in
      subst (λ n. IsOutcomeOf first (decided cfg (record { network = n; clients = [] })) id answer) (sym run.1)
      (answer_own first run.0 is.node is.log id answer (subst (λ n. log_of is.node n.logs ≡ Some is.log) run.1 is.its_log) is.got)

  pub linearized : (cfg : Config A) (happenings : List (Happening A)) → IsLinearized cfg (run_of cfg happenings)
  linearized cfg happenings =
      let w = run_of cfg happenings in
      let run = (every_service cfg happenings).nodes in
      record {
        once = each_once [] (without_gap (chosen cfg.cluster (envelopes w.network)));
        submitted = decided_submitted cfg w run;
        answers = answer_outcome cfg w run;
      }

  -- what has an outcome stands in the order
  outcome_stands : (first : Opening A) (order : List (ℕ × Command A)) (id : CommandId) (answer : Outcome A) →
      IsOutcomeOf first order id answer → StandsIn id order
  outcome_stands first order id answer h =
      subst (λ all. StandsIn id all) (sym h.order) (stands_between h.before h.after (h.slot, h.command) id h.its)

  -- what wasn't submitted doesn't stand in it
  new_absent : (w : Service A) (order : List (ℕ × Command A)) → WereSubmitted w order → (id : CommandId) →
      IsNew w id → StandsIn id order → ⊥
  new_absent w order submitted id new h =
      let x = stands_as order id h in
      let was = submitted x.0 x.1 x.2 in
      new was.0 x.1.op (subst (λ i. log_of i.ticket.node w.network.logs ≡ Some was.0) x.3 was.1)
      (subst (λ i. IsSubmitted was.0 i x.1.op) x.3 was.2)

  pub answered_first : (cfg : Config A) (early late : List (Happening A)) (id other : CommandId) (answer : Outcome A) →
      IsAnswered (run_of cfg early) id answer → IsNew (run_of cfg early) other → Precedes id other (decided cfg (run_of cfg (early ++ late)))
  answered_first cfg early late id other answer is new =
      let w = run_of cfg early in
      let now = linearized cfg early in
      record {
        front = decided cfg w;
        begins = run_grows cfg early late;
        has = outcome_stands (opening_of cfg) (decided cfg w) id answer (now.answers id answer is);
        lacks = new_absent w (decided cfg w) now.submitted other new;
      }
