-- An answer that a node has got stays, whatever it is given to do.
use Rattle.std.proofs.Common.{◌≡◌, [], ◌∷◌, Option, Some, None, refl, sym}
use Rattle.maildrop.specs.CommandId.{CommandId}
use Rattle.maildrop.specs.declared.outcome.Outcome.{Outcome}
use Rattle.node.specs.Nodes.{answered, logged, left_after}
use Rattle.node.specs.declared.input.Input.{Input}
use Rattle.node.specs.declared.log.NodeLog.{NodeLog}
use Rattle.node.proofs.Answering.{answered_stays}

module _ {A : Type 0} where
  -- so what is there, or comes, is what the log has got
  pub all_left : (log : NodeLog A) (i : Input A) (id : CommandId) → left_after (answered log id) (answered log id) (answered (logged log i) id) ≡ answered (logged log i) id
  all_left log i id =
      go (answered log id) refl
    where
      go : (o : Option (Outcome A)) → answered log id ≡ o → left_after o o (answered (logged log i) id) ≡ answered (logged log i) id
      go None e = refl
      go (Some a) e = sym (answered_stays log (i ∷ []) id a e)
