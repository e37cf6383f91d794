-- A node: what each input makes of it, what it sends, and what a log leads to.
use Rattle.std.specs.Prelude.{ℕ, ◌+◌, ◌==◌, List, [], ◌∷◌, ◌++◌, map, Bool, true, false, Option, Some, None, if◌then◌else◌}
use Rattle.std.specs.List.{list_any}
use Rattle.std.specs.Option.{option_map_or}
use Rattle.std.specs.Str.{bytes_eq}
use Rattle.ballot.specs.Sends.{Move, stays}
use Rattle.ballot.specs.Slots.{at_slot}
use Rattle.ballot.specs.declared.message.Message.{Message}
use Rattle.ballot.specs.declared.message.Message.TheVariants.{Propose, P1a, P1b, P2a, P2b, Decision, Ask}
use Rattle.ballot.specs.declared.message.Envelope.{Envelope}
use Rattle.ballot.specs.declared.outgoing.Outgoing.{Outgoing}
use Rattle.acceptor.specs.Acceptors.{AcceptorState, after_p1a, after_p2a, promise_for, vote_for}
use Rattle.leader.specs.Leaders.{LeaderState, new_leader, proposed, hears_promise, hears_vote, campaigned, leader_ticks}
use Rattle.replica.specs.Replicas.{Rules, ReplicaState, new_replica, requested, learns, replica_ticks}
use Rattle.maildrop.specs.Ticket.{Ticket}
use Rattle.maildrop.specs.CommandId.{CommandId, compare_ids}
use Rattle.maildrop.specs.Same.{identity_of, same_command}
use Rattle.maildrop.specs.Office.{User, opened_user, outcome_in, users_after}
use Rattle.maildrop.specs.declared.command.Command.{Command}
use Rattle.maildrop.specs.declared.op.Op.{Op}
use Rattle.maildrop.specs.declared.outcome.Outcome.{Outcome}
use Rattle.node.specs.Tickets.{ticket_at}
use Rattle.node.specs.declared.input.Input.{Input}
use Rattle.node.specs.declared.input.Input.TheVariants.{Submit, Arrive, Tick, Campaign, Crash}
use Rattle.node.specs.declared.log.Opening.{Opening}
use Rattle.node.specs.declared.log.NodeLog.{NodeLog}

-- a replica whose commands are performed on the maildrops of all users
abbrev pub MailReplica : Type 0 → Type 0
MailReplica A = ReplicaState (Command A) CommandId (Outcome A) (List (User A))

-- an acceptor, a leader and a replica in one
pub record NodeState (A : Type 0) : Type 0 where
  pub acceptor : AcceptorState (Command A)
  pub leader : LeaderState (Command A)
  pub replica : MailReplica A

-- the node after an input, and what it sends
abbrev pub NodeMove : Type 0 → Type 0
NodeMove A = Move (NodeState A) (Command A) A

module _ {A : Type 0} where
  -- what a replica knows of commands and of the maildrops
  abbrev pub mail_rules : Rules (Command A) CommandId (Outcome A) (List (User A))
  mail_rules = record { identity = identity_of; compare = compare_ids; answer_to = outcome_in; after = users_after }

  -- the users with their maildrops, as a node begins: each opens with what is kept under the name
  abbrev pub first_users : Opening A → List (User A)
  first_users o = map (opened_user o.limits o.keys o.kept) o.names

  -- a node that has taken no input
  abbrev pub new_node : Opening A → NodeState A
  new_node o = record {
    acceptor = record { ballot = None; accepted = [] };
    leader = new_leader o.me o.cluster;
    replica = new_replica o.me o.cluster o.window (first_users o);
  }

  -- one message to one node
  abbrev pub to_one : ℕ → Message (Command A) A → List (Outgoing (Command A) A)
  to_one to message = record { to = to; message = message } ∷ []

  -- what a call of its leader or its replica makes of the node
  abbrev pub by_leader : NodeState A → Move (LeaderState (Command A)) (Command A) A → NodeMove A
  by_leader n move = record { after = record n { leader = move.after }; sends = move.sends }

  abbrev pub by_replica : NodeState A → Move (MailReplica A) (Command A) A → NodeMove A
  by_replica n move = record { after = record n { replica = move.after }; sends = move.sends }

  -- a message comes from a node: the role that it is for takes it
  abbrev pub hears : NodeState A → ℕ → Message (Command A) A → NodeMove A
  hears n from (Propose s c) = by_leader n (proposed n.leader s c)
  hears n from (P1a b) =
      record { after = record n { acceptor = after_p1a n.acceptor b }; sends = to_one from (P1b (promise_for n.acceptor b)) }
  hears n from (P1b p) = by_leader n (hears_promise same_command n.leader from p)
  hears n from (P2a p) =
      record { after = record n { acceptor = after_p2a n.acceptor p }; sends = to_one from (P2b (vote_for n.acceptor p)) }
  hears n from (P2b v) = by_leader n (hears_vote n.leader from v)
  hears n from (Decision s c) = by_replica n (learns mail_rules s c n.replica)
  hears n from (Ask s) =
      record { after = n; sends = option_map_or (λ c. to_one from (Decision s c)) (at_slot s n.replica.decisions) [] }

  -- how many operations for the user were submitted
  abbrev pub counts : List ℕ → Input A → ℕ
  counts name (Submit user op) = if bytes_eq user name then 1 else 0
  counts name _ = 0

  abbrev pub submits_of : List ℕ → List (Input A) → ℕ
  submits_of name [] = 0
  submits_of name (i ∷ is) = counts name i + submits_of name is

  -- the ticket of an operation for the user that is submitted next
  abbrev pub next_ticket : ℕ → List ℕ → List (Input A) → Ticket
  next_ticket me name before = record { node = me; seq = 1 + submits_of name before }

  -- the ticket of the last operation for the user among these inputs, if there is one
  abbrev pub last_ticket : ℕ → List ℕ → List (Input A) → Option Ticket
  last_ticket me name inputs = ticket_at me (submits_of name inputs)

  -- the command of an operation that is submitted after these inputs
  abbrev pub command_for : ℕ → List ℕ → Op A → List (Input A) → Command A
  command_for me name op before = record { user = name; ticket = next_ticket me name before; op = op }

  -- an input of node `me` that hasn't crashed, after those before. A message to another node changes nothing. When time
  -- passes the leader asks again, then the replica
  abbrev pub acts : ℕ → List (Input A) → NodeState A → Input A → NodeMove A
  acts me before n (Submit name op) = by_replica n (requested mail_rules (command_for me name op before) n.replica)
  acts me before n (Arrive e) = if e.to == me then hears n e.from e.message else stays n
  acts me before n Tick = record { after = n; sends = (leader_ticks n.leader).sends ++ (replica_ticks n.replica).sends }
  acts me before n Campaign = by_leader n (campaigned n.leader)
  acts me before n Crash = stays n

  abbrev pub is_crash : Input A → Bool
  is_crash Crash = true
  is_crash _ = false

  -- a crash is for good: an input after one changes nothing
  abbrev pub takes : ℕ → List (Input A) → NodeState A → Input A → NodeMove A
  takes me before n i = if list_any is_crash before then stays n else acts me before n i

  -- inputs, one after another
  abbrev pub takes_all : ℕ → List (Input A) → NodeState A → List (Input A) → NodeState A
  takes_all me before n [] = n
  takes_all me before n (i ∷ is) = takes_all me (before ++ i ∷ []) (takes me before n i).after is

  -- what a log leads to
  abbrev pub replayed : NodeLog A → NodeState A
  replayed log = takes_all log.opening.me [] (new_node log.opening) log.inputs

  abbrev pub sent_from : ℕ → List (Outgoing (Command A) A) → List (Envelope (Command A) A)
  sent_from me sends = map (λ s. record { from = me; to = s.to; message = s.message }) sends

  -- what the next input sends, and the ticket that it gets
  abbrev pub sends_of : NodeLog A → Input A → List (Envelope (Command A) A)
  sends_of log i = sent_from log.opening.me (takes log.opening.me log.inputs (replayed log) i).sends

  abbrev pub ticket_of : NodeLog A → Input A → Option Ticket
  ticket_of log (Submit name op) = Some (next_ticket log.opening.me name log.inputs)
  ticket_of log _ = None
