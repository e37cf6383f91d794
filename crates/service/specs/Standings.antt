-- What an operator is told of the nodes.
use Rattle.std.specs.Prelude.{ℕ, List, ◌++◌, ◌∷◌, [], codes, decimal, if◌then◌else◌, Option, None, Some}
use Rattle.cluster.specs.declared.status.Status.{Status}

-- what follows a node's number if the node is up
abbrev pub up_text : Status → List ℕ
up_text status =
    codes " up " ++ (if status.active then codes "active" else codes "passive")
    ++ (codes " slot " ++ decimal status.slot_out ++ 10 ∷ [])

abbrev pub state_text : Option Status → List ℕ
state_text None = codes " down\n"
state_text (Some status) = if status.up then up_text status else codes " down\n"

-- the line of a node. A node without a state belongs to a cluster that has ended
abbrev pub standing_line : ℕ → Option Status → List ℕ
standing_line node status = codes "node " ++ decimal node ++ state_text status
