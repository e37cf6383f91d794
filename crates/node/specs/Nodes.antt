-- What contracts see of a node, and what its type keeps.
use Rattle.std.specs.Prelude.{◌≡◌, ℕ, ◌+◌, nat_le, List, [], ◌∷◌, ◌++◌, Bool, false, ◌&&◌, Option, Some, None}
use Rattle.std.specs.List.{list_any}
use Rattle.std.specs.Map.{lookup}
use Rattle.std.specs.BTreeMap.{is_at}
use Rattle.ballot.specs.Nodes.{in_cluster}
use Rattle.maildrop.specs.CommandId.{CommandId, compare_ids}
use Rattle.maildrop.specs.declared.outcome.Outcome.{Outcome}
use Rattle.replica.specs.Replicas.{answer_for, taken}
use Rattle.replica.specs.Taken as replica
use Rattle.node.specs.Replay.{NodeState, mail_rules, first_users, replayed, counts, submits_of, is_crash}
use Rattle.node.specs.Tickets.{tickets_of, has_all_tickets}
use Rattle.node.specs.declared.input.Input.{Input}
use Rattle.node.specs.declared.input.Input.TheVariants.{Submit, Crash}
use Rattle.node.specs.declared.log.NodeLog.{NodeLog}
use Rattle.node.specs.declared.log.Opening.{Opening}
use Rattle.node.specs.declared.stopped.Stopped.{Stopped}
use Rattle.node.specs.declared.stopped.Stopped.TheVariants.{Crashed, Memory}
use Rattle.node.specs.declared.node.TheConstants.{WIDEST_WINDOW}

-- the identities of commands that were submitted here and whose answers weren't taken, each with its answer once it is there
abbrev pub Awaited : Type 0 → Type 0
Awaited A = List (CommandId × Option (Outcome A))

-- its log, why it has stopped, and what is awaited of it, which is nothing once it has stopped
pub record NodeValue (A : Type 0) : Type 0 where
  pub log : NodeLog A
  pub stopped : Option Stopped
  pub awaited : Awaited A

-- what a node is follows from its log, unless it ran out of memory
abbrev pub IsKnown : Option Stopped → Type 0
IsKnown (Some Memory) = ⊥
IsKnown _ = Unit {0}

-- whether a node can begin so: it is one of the cluster, and proposes for 1 to 1,000 slots
abbrev pub can_begin : ℕ → ℕ → ℕ → Bool
can_begin me cluster window = in_cluster cluster me && nat_le 1 window && nat_le window WIDEST_WINDOW

module _ {A : Type 0} where
  -- a node that has taken no input
  abbrev pub opened : Opening A → NodeValue A
  opened opening = record { log = record { opening = opening; inputs = [] }; stopped = None; awaited = [] }

  abbrev pub logged : NodeLog A → Input A → NodeLog A
  logged log i = record { opening = log.opening; inputs = log.inputs ++ i ∷ [] }

  abbrev pub lengthened : NodeLog A → List (Input A) → NodeLog A
  lengthened log more = record { opening = log.opening; inputs = log.inputs ++ more }

  -- why a node stops after an input
  abbrev pub stops_after : Input A → Option Stopped
  stops_after Crash = Some Crashed
  stops_after _ = None

  -- whether the input is for a user who has got the last ticket
  abbrev pub no_ticket_for : NodeLog A → Input A → Bool
  no_ticket_for log (Submit name op) = has_all_tickets (submits_of name log.inputs)
  no_ticket_for log _ = false

  abbrev pub awaited_for : CommandId → Awaited A → Option (Option (Outcome A))
  awaited_for id awaited = lookup (is_at (compare_ids id)) awaited

  abbrev pub answer_of : CommandId → Awaited A → Option (Outcome A)
  answer_of id awaited = answer_for mail_rules id awaited

  -- the node after the answer to a command is taken
  abbrev pub taken_of : CommandId → NodeState A → NodeState A
  taken_of id n = record { acceptor = n.acceptor; leader = n.leader; replica = taken mail_rules id n.replica }

  -- the answer that a node of this log has got for the command, taken or not
  abbrev pub answered : NodeLog A → CommandId → Option (Outcome A)
  answered log id = answer_for mail_rules id (replayed log).replica.awaited

  -- an answer that is there stays, and one comes if the log gets it: it had none before, and has one after
  abbrev pub left_after : Option (Outcome A) → Option (Outcome A) → Option (Outcome A) → Option (Outcome A)
  left_after (Some answer) before after = Some answer
  left_after None (Some taken) after = None
  left_after None None after = after

  abbrev pub answer_after : NodeLog A → Input A → CommandId → Option (Outcome A) → Option (Outcome A)
  answer_after log i id here = left_after here (answered log id) (answered (logged log i) id)

  -- what is awaited of a node that runs
  abbrev pub awaited_in : Option Stopped → Option (NodeState A) → Awaited A
  awaited_in None (Some n) = n.replica.awaited
  awaited_in _ _ = []

  -- one node is as the other, but for the answers that were taken of it; both began with the maildrops of the opening
  pub record IsButTaken (opening : Opening A) (m n : NodeState A) : Type 0 where
    pub acceptor : m.acceptor ≡ n.acceptor
    pub leader : m.leader ≡ n.leader
    pub replica : replica.IsButTaken mail_rules (first_users opening) m.replica n.replica

  -- each user has got as many tickets as there are operations for the user among the inputs
  abbrev pub AreGiven : List (Input A) → List (List ℕ × ℕ) → Type 0
  AreGiven inputs given = (name : List ℕ) → tickets_of name given ≡ submits_of name inputs

  -- the user for whom an input is an operation
  abbrev pub user_of : Input A → Option (List ℕ)
  user_of (Submit name op) = Some name
  user_of _ = None

  -- an input gives its user one ticket more, if it is an operation
  abbrev pub ArePassed : Input A → (before after : List (List ℕ × ℕ)) → Type 0
  ArePassed i before after = (name : List ℕ) → tickets_of name after ≡ counts name i + tickets_of name before

  -- the roles are those to which the log leads, and each user has got as many tickets as the log says
  pub record IsCurrent (log : NodeLog A) (roles : Option (NodeState A)) (given : List (List ℕ × ℕ)) : Type 0 where
    pub node : NodeState A
    pub works : roles ≡ Some node
    pub replay : IsButTaken log.opening node (replayed log)
    pub tickets : AreGiven log.inputs given

  -- the last input is a crash, and no other is
  abbrev pub EndsInCrash : List (Input A) → Type 0
  EndsInCrash inputs = (before : List (Input A)) × (inputs ≡ before ++ Crash ∷ []) × (list_any is_crash before ≡ false)

  -- what holds of a node between steps; it has crashed if its log ends in a crash
  abbrev pub IsKept : NodeLog A → Option (NodeState A) → List (List ℕ × ℕ) → Option Stopped → Type 0
  IsKept log roles given (Some Memory) = AreGiven log.inputs given × (list_any is_crash log.inputs ≡ false)
  IsKept log roles given (Some Crashed) = IsCurrent log roles given × EndsInCrash log.inputs
  IsKept log roles given _ = IsCurrent log roles given × (list_any is_crash log.inputs ≡ false)
