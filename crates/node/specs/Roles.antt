-- The roles of a node, seen as its state, and what a call of each makes of the node.
use Rattle.std.specs.Prelude.{ℕ, ◌==◌, ◌++◌, List, [], Option, Some, None, if◌then◌else◌}
use Rattle.std.specs.Option.{option_map_or}
use Rattle.ballot.specs.Sends.{stays}
use Rattle.ballot.specs.declared.message.Message.{Message}
use Rattle.ballot.specs.declared.message.Message.TheVariants.{Decision}
use Rattle.ballot.specs.declared.message.Envelope.{Envelope}
use Rattle.ballot.specs.declared.outgoing.Outgoing.{Outgoing}
use Rattle.acceptor.specs.Acceptors.{AcceptorState}
use Rattle.leader.specs.Leaders.{LeaderState, campaigned, leader_ticks}
use Rattle.replica.specs.Replicas.{requested, replica_ticks}
use Rattle.maildrop.specs.declared.command.Command.{Command}
use Rattle.node.specs.Replay.{NodeState, NodeMove, MailReplica, mail_rules, to_one, by_leader, by_replica, hears}

module _ {A : Type 0} where
  -- none if the leader or the replica is spent
  abbrev pub node_of : AcceptorState (Command A) → Option (LeaderState (Command A)) → Option (MailReplica A) → Option (NodeState A)
  node_of acceptor None replica = None
  node_of acceptor (Some leader) None = None
  node_of acceptor (Some leader) (Some replica) = Some (record { acceptor = acceptor; leader = leader; replica = replica })

  -- a command is submitted
  abbrev pub submits : NodeState A → Command A → NodeMove A
  submits n c = by_replica n (requested mail_rules c n.replica)

  -- a message to another node changes nothing
  abbrev pub arrives : ℕ → NodeState A → Envelope (Command A) A → NodeMove A
  arrives me n e = if e.to == me then hears n e.from e.message else stays n

  -- the decision of a slot goes to the node that asked for it, if it is known
  abbrev pub decision_to : ℕ → ℕ → Option (Command A) → List (Outgoing (Command A) A)
  decision_to to slot c = option_map_or (λ c. to_one to (Decision slot c)) c []

  -- time passes: what the leader asks, then what the replica asks
  abbrev pub ticks : NodeState A → NodeMove A
  ticks n = record { after = n; sends = (leader_ticks n.leader).sends ++ (replica_ticks n.replica).sends }

  -- the node asks to lead
  abbrev pub campaigns : NodeState A → NodeMove A
  campaigns n = by_leader n (campaigned n.leader)

  -- its acceptor has moved on, and answers a node
  abbrev pub by_acceptor : NodeState A → ℕ → AcceptorState (Command A) → Message (Command A) A → NodeMove A
  by_acceptor n to acceptor answer = record { after = record n { acceptor = acceptor }; sends = to_one to answer }
