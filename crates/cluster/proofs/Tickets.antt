-- A ticket names the node that gave it.
use Rattle.std.specs.Prelude.{◌≡◌, refl, IfSome}
use Rattle.node.specs.Replay.{ticket_of}
use Rattle.node.specs.declared.input.Input.{Input}
use Rattle.node.specs.declared.input.Input.TheVariants.{Submit, Arrive, Tick, Campaign, Crash}
use Rattle.node.specs.declared.log.NodeLog.{NodeLog}

pub ticket_of_its_node : {A : Type 0} (log : NodeLog A) (input : Input A) → IfSome (ticket_of log input) (λ ticket. ticket.node ≡ log.opening.me)
ticket_of_its_node log (Submit user op) = refl
ticket_of_its_node log (Arrive envelope) = tt
ticket_of_its_node log Tick = tt
ticket_of_its_node log Campaign = tt
ticket_of_its_node log Crash = tt
