-- What a node that runs shows of what is awaited of it.
use Rattle.std.proofs.Common.{◌≡◌, true, Bool, List, ℕ, Option, Some, None}
use Rattle.std.specs.Prelude.{is_some, is_none, IfSome}
use Rattle.maildrop.specs.CommandId.{CommandId}
use Rattle.node.specs.Replay.{NodeState}
use Rattle.node.specs.Nodes.{IsKept, answer_of, awaited_in}
use Rattle.node.specs.declared.log.NodeLog.{NodeLog}
use Rattle.node.specs.declared.stopped.Stopped.{Stopped}

pub runs_on : (P : Stopped → Type 0) (stopped : Option Stopped) → is_none stopped ≡ true → IfSome stopped P
runs_on P None runs = tt
runs_on P (Some stop) runs = absurd (cc)

module _ {A : Type 0} where
  pub shown_answer : (log : NodeLog A) (roles : Option (NodeState A)) (given : List (List ℕ × ℕ)) (stopped : Option Stopped) (id : CommandId) (there : Bool) → is_none stopped ≡ true →
      IsKept log roles given stopped → IfSome roles (λ n. there ≡ is_some (answer_of id n.replica.awaited)) → there ≡ is_some (answer_of id (awaited_in stopped roles))
  shown_answer log roles given (Some stop) id there runs kept h = absurd (cc)
  shown_answer log None given None id there runs kept h = absurd (cc kept.0.works)
  shown_answer log (Some n) given None id there runs kept h = h
