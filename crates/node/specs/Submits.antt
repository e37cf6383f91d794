-- The operations that were submitted, by the tickets that their node gave them.
use Rattle.std.specs.Prelude.{◌≡◌, ℕ, List, [], ◌∷◌, ◌++◌, Option, Some, None, if◌then◌else◌}
use Rattle.maildrop.specs.CommandId.{CommandId, same_id}
use Rattle.maildrop.specs.declared.op.Op.{Op}
use Rattle.node.specs.Replay.{next_ticket}
use Rattle.node.specs.declared.input.Input.{Input}
use Rattle.node.specs.declared.input.Input.TheVariants.{Submit}
use Rattle.node.specs.declared.log.NodeLog.{NodeLog}

module _ {A : Type 0} where
  -- the log has a Submit of this operation for the identity's user, and the node gave it the identity's ticket
  pub record IsSubmitted (log : NodeLog A) (id : CommandId) (op : Op A) : Type 0 where
    pub before : List (Input A)
    pub after : List (Input A)
    pub inputs : log.inputs ≡ before ++ Submit id.user op ∷ after
    pub ticket : id.ticket ≡ next_ticket log.opening.me id.user before

  -- the log with these inputs alone
  abbrev pub log_until : NodeLog A → List (Input A) → NodeLog A
  log_until log inputs = record { opening = log.opening; inputs = inputs }

  -- the identity of an operation for the user that is submitted next
  abbrev pub next_id : ℕ → List ℕ → List (Input A) → CommandId
  next_id me user before = record { user = user; ticket = next_ticket me user before }

  abbrev pub op_at : ℕ → List (Input A) → CommandId → Input A → Option (Op A) → Option (Op A)
  op_at me before id (Submit user op) later = if same_id (next_id me user before) id then Some op else later
  op_at me before id _ later = later

  -- the operation that has the identity among inputs of node me after others
  abbrev pub op_among : ℕ → List (Input A) → List (Input A) → CommandId → Option (Op A)
  op_among me before [] id = None
  op_among me before (i ∷ is) id = op_at me before id i (op_among me (before ++ i ∷ []) is id)

  -- the operation that was submitted with the identity
  abbrev pub op_of : NodeLog A → CommandId → Option (Op A)
  op_of log id = op_among log.opening.me [] log.inputs id
