-- What holds of a service that some run has reached.
use Rattle.std.proofs.Common.{◌≡◌, ℕ, [], ◌∷◌, ◌++◌, true, Some, refl, ap, ◌∙◌, subst}
use Rattle.std.specs.Prelude.{is_some}
use Rattle.std.proofs.lemmas.List.Sums.{fold-append}
use Rattle.maildrop.specs.CommandId.{CommandId}
use Rattle.maildrop.specs.declared.outcome.Outcome.{Outcome}
use Rattle.node.specs.Nodes.{answered}
use Rattle.node.specs.declared.log.NodeLog.{NodeLog}
use Rattle.session.specs.Session.{by_answer}
use Rattle.session.specs.declared.state.State.{State}
use Rattle.runs.specs.Clients.{Client, Waits, client_of}
use Rattle.runs.specs.Messages.{log_of}
use Rattle.runs.specs.Projection.{IsProjected}
use Rattle.runs.specs.Services.{Service, Happening, new_service, happens}
use Rattle.runs.specs.Worlds.{IsReached}
use Rattle.runs.specs.declared.config.Config.{Config}
use Rattle.runs.proofs.Fit.{every_answer_fits}
use Rattle.runs.proofs.Projected.{every_projected}

module _ {A : Type 0} where
  pub new_reached : (cfg : Config A) → IsReached cfg (new_service cfg)
  new_reached cfg = ([], refl)

  pub next_reached : (cfg : Config A) (w : Service A) (h : Happening A) → IsReached cfg w → IsReached cfg (happens cfg w h)
  next_reached cfg w h reached =
      (reached.0 ++ h ∷ [], fold-append (happens cfg) (new_service cfg) reached.0 (h ∷ []) ∙ ap (λ s. happens cfg s h) reached.1)

  pub reached_projected : (cfg : Config A) (w : Service A) → IsReached cfg w → (session : ℕ) (c : Client A) → client_of session w.clients ≡ Some c → IsProjected cfg w c
  reached_projected cfg w reached session c at =
      subst (λ s. IsProjected cfg s c) reached.1 (every_projected cfg reached.0 session c (ap (λ s. client_of session s.clients) reached.1 ∙ at))

  -- each answer that is there fits what its session asked for
  abbrev AnswersFit : Service A → Type 0
  AnswersFit w = (session : ℕ) (c : Client A) (log : NodeLog A) (state : State A) (id : CommandId) (answer : Outcome A) →
      client_of session w.clients ≡ Some c → c.standing ≡ Waits state id → log_of c.node w.network.logs ≡ Some log → answered log id ≡ Some answer →
      is_some (by_answer state id.ticket answer) ≡ true

  pub reached_fits : (cfg : Config A) (w : Service A) → IsReached cfg w → AnswersFit w
  reached_fits cfg w reached = subst AnswersFit reached.1 (every_answer_fits cfg reached.0)
