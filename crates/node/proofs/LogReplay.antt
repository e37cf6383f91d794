-- A node that takes the inputs of a log, one after another.
use Rattle.std.proofs.Common.{◌≡◌, ◌∙◌, ℕ, ◌+◌, ◌<◌, List, [], ◌∷◌, ◌++◌, Option, ap, append_assoc, sym, subst, take, length, get_or}
use Rattle.std.proofs.lemmas.List.{take_more}
use Rattle.node.specs.Nodes.{IsKnown, lengthened, logged, stops_after}
use Rattle.node.specs.declared.input.Input.{Input}
use Rattle.node.specs.declared.input.Input.TheVariants.{Submit, Arrive, Tick, Campaign, Crash}
use Rattle.node.specs.declared.log.NodeLog.{NodeLog}
use Rattle.node.specs.declared.stopped.Stopped.{Stopped}

module _ {A : Type 0} where
  pub logged_more : (first old new : NodeLog A) (inputs : List (Input A)) (i : ℕ) (input : Input A) → i < length inputs → input ≡ get_or inputs i input
      → old ≡ lengthened first (take i inputs) → new ≡ logged old input → new ≡ lengthened first (take (i + 1) inputs)
  logged_more first old new inputs i input within its so_far taken =
      let more : take (i + 1) inputs ≡ take i inputs ++ input ∷ [] =
      take_more inputs i input within ∙ ap (λ x. take i inputs ++ x ∷ []) (sym its) in
      taken ∙ ap (λ log. logged log input) so_far
      ∙ ap (λ is. record { opening = first.opening; inputs = is }) (append_assoc first.inputs (take i inputs) (input ∷ []) ∙ ap (λ is. first.inputs ++ is) (sym more))

  known_after : (input : Input A) → IsKnown (stops_after input)
  known_after (Submit name op) = tt
  known_after (Arrive e) = tt
  known_after Tick = tt
  known_after Campaign = tt
  known_after Crash = tt

  -- an input that a node takes leaves it known
  pub still_known : (input : Input A) (stopped : Option Stopped) → stopped ≡ stops_after input → IsKnown stopped
  still_known input stopped is = subst IsKnown (sym is) (known_after input)
