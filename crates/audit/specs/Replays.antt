-- The node of a log, as inputs come to it one after another.
use Rattle.std.specs.Prelude.{Bool, true, false, not, List, [], Option, Some, None, ◌&&◌}
use Rattle.std.specs.List.{list_any}
use Rattle.std.specs.Str.{bytes_eq}
use Rattle.ballot.specs.declared.message.Envelope.{Envelope}
use Rattle.maildrop.specs.CommandId.{CommandId}
use Rattle.maildrop.specs.Same.{same_op}
use Rattle.maildrop.specs.declared.command.Command.{Command}
use Rattle.maildrop.specs.declared.op.Op.{Op}
use Rattle.maildrop.specs.declared.op.Op.TheVariants.{Take, Commit, Free}
use Rattle.maildrop.specs.declared.outcome.Outcome.{Outcome}
use Rattle.node.specs.Nodes.{answered, logged}
use Rattle.node.specs.Replay.{sends_of, next_ticket, is_crash}
use Rattle.node.specs.declared.input.Input.{Input}
use Rattle.node.specs.declared.input.Input.TheVariants.{Submit, Arrive}
use Rattle.node.specs.declared.log.NodeLog.{NodeLog}

-- what came to a node so far, none if there is no such node
abbrev pub Replay : Type 0 → Type 0
Replay A = Option (NodeLog A)

module _ {A : Type 0} where
  abbrev pub after : Replay A → Input A → Replay A
  after None i = None
  after (Some log) i = Some (logged log i)

  abbrev pub sends : Replay A → Input A → List (Envelope (Command A) A)
  sends None i = []
  sends (Some log) i = sends_of log i

  abbrev pub runs : Replay A → Bool
  runs None = false
  runs (Some log) = not (list_any is_crash log.inputs)

  abbrev pub key_of : Replay A → Input A → Option CommandId
  key_of (Some log) (Submit name op) = Some (record { user = name; ticket = next_ticket log.opening.me name log.inputs })
  key_of _ _ = None

  abbrev pub answer : Replay A → CommandId → Option (Outcome A)
  answer None id = None
  answer (Some log) id = answered log id

  abbrev pub brought : Input A → Option (Envelope (Command A) A)
  brought (Arrive e) = Some e
  brought _ = None

  abbrev pub is_of_lock : Op A → Bool
  is_of_lock Take = true
  is_of_lock (Commit lock uids) = true
  is_of_lock (Free lock) = true
  is_of_lock _ = false

  abbrev pub locks : Input A → Bool
  locks (Submit name op) = is_of_lock op
  locks _ = false

  -- equal Submits
  abbrev pub same_submit : Input A → Input A → Bool
  same_submit (Submit name op) (Submit other_name other) = bytes_eq name other_name && same_op op other
  same_submit _ _ = false
