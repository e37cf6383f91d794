-- Each answer that a node has got is the outcome that its user's maildrop alone gives.
use Rattle.std.proofs.Common.{◌≡◌, ℕ, List, ◌∷◌, ◌++◌, Some, sym, ap, ◌∙◌, subst, append_assoc}
use Rattle.maildrop.specs.CommandId.{CommandId}
use Rattle.maildrop.specs.declared.command.Command.{Command}
use Rattle.maildrop.specs.declared.outcome.Outcome.{Outcome}
use Rattle.node.specs.Nodes.{answered}
use Rattle.node.specs.Outcomes.{IsOutcomeOf}
use Rattle.node.specs.Replay.{replayed}
use Rattle.node.specs.declared.log.NodeLog.{NodeLog}
use Rattle.node.specs.declared.log.Opening.{Opening}
use Rattle.node.proofs.OwnOutcomes.{answered_outcome}
use Rattle.session.specs.Prefix.{IsPrefix}
use Rattle.runs.specs.Messages.{NodeEvent, log_of, network_of}
use Rattle.runs.specs.Runs.{order_of}
use Rattle.runs.proofs.NodeRuns.{every_run}
use Rattle.runs.proofs.Theorems.{performed_prefix}

module _ {A : Type 0} where
  -- more that is decided after it changes nothing
  outcome_more : (first : Opening A) (xs ys : List (ℕ × Command A)) (id : CommandId) (o : Outcome A) → IsPrefix xs ys → IsOutcomeOf first xs id o → IsOutcomeOf first ys id o
  outcome_more first xs ys id o p h = record {
    before = h.before;
    after = h.after ++ p.0;
    slot = h.slot;
    command = h.command;
    order = sym p.1 ∙ ap (λ zs. zs ++ p.0) h.order ∙ append_assoc h.before ((h.slot, h.command) ∷ h.after) p.0;
    its = h.its;
    none_before = h.none_before;
    outcome = h.outcome;
  }

  -- a node began with its own number
  as_first : (first : Opening A) (n : ℕ) (xs : List (ℕ × Command A)) (id : CommandId) (o : Outcome A) → IsOutcomeOf (record first { me = n }) xs id o → IsOutcomeOf first xs id o
  as_first first n xs id o h = record { before = h.before; after = h.after; slot = h.slot; command = h.command; order = h.order; its = h.its; none_before = h.none_before; outcome = h.outcome }

  pub answer_own : (first : Opening A) (events : List (NodeEvent A)) (n : ℕ) (log : NodeLog A) (id : CommandId) (o : Outcome A) → log_of n (network_of first events).logs ≡ Some log →
      answered log id ≡ Some o → IsOutcomeOf first (order_of first events) id o
  answer_own first events n log id o at e =
      let begins : log.opening ≡ record first { me = n } = (every_run first events).begins n log at in
      let performed = (replayed log).replica.performed in
      let alone : IsOutcomeOf (record first { me = n }) performed id o = subst (λ opening. IsOutcomeOf opening performed id o) begins (answered_outcome log id o e) in
      outcome_more first performed (order_of first events) id o (performed_prefix first events n log at) (as_first first n performed id o alone)
