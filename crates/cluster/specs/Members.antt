-- What is known of a node of a cluster by whoever gets its lock, or got it.
use Rattle.std.specs.Prelude.{◌≡◌, ◌⊎◌, ℕ, Bool, true, false, if◌then◌else◌, List, [], ◌∷◌, Option, Some, None, is_some, IfSome}
use Rattle.std.specs.declared.alloc.Global.{Global}
use Rattle.std.specs.Ordering.{is_eq}
use Rattle.maildrop.specs.CommandId.{CommandId, compare_ids}
use Rattle.maildrop.specs.Ticket.{Ticket}
use Rattle.maildrop.specs.declared.op.Op.{Op}
use Rattle.maildrop.specs.declared.outcome.Outcome.{Outcome}
use Rattle.leader.specs.Leaders.{phase_is_active}
use Rattle.replica.specs.Replicas.{is_waiting}
use Rattle.node.specs.Replay.{NodeState, replayed}
use Rattle.node.specs.Nodes.{NodeValue, Awaited, logged, answer_of, answered}
use Rattle.node.specs.declared.input.Input.TheVariants.{Crash}
use Rattle.node.specs.declared.log.NodeLog.{NodeLog}
use Rattle.node.specs.declared.log.Opening.{Opening}
use Rattle.node.specs.declared.stopped.Stopped.{Stopped}
use Rattle.node.specs.declared.stopped.Stopped.TheVariants.{Crashed, Memory}
use Rattle.session.specs.Desks.{Given}
use Rattle.cluster.specs.Fits.{may_answer}
use Rattle.cluster.specs.declared.setup.Setup.{Setup}
use Rattle.cluster.specs.declared.status.Status.{Status}
use Rattle.cluster.specs.declared.waiters.Groups.{Groups}

-- a node under its lock: its log, why it has stopped, what is awaited of it, and the commands whose answers nobody awaits
pub record MemberValue : Type 0 where
  pub log : NodeLog Global
  pub stopped : Option Stopped
  pub awaited : Awaited Global
  pub told : List CommandId

abbrev pub member_of : NodeValue Global → MemberValue
member_of node = record { log = node.log; stopped = node.stopped; awaited = node.awaited; told = [] }

-- all groups of those who wait for a node's answers, a bit for each
abbrev pub AreAll : Groups → Type 0
AreAll groups = groups.0 ≡ 18446744073709551615

-- a node that has stopped for this reason awaits nothing
abbrev pub stopped_for : Stopped → NodeLog Global → List CommandId → MemberValue
stopped_for stop log told = record { log = log; stopped = Some stop; awaited = []; told = told }

-- a node that was up has crashed: its log ends in the crash, or is as it was, without memory
abbrev pub HasCrashed : (before after : MemberValue) → Type 0
HasCrashed before after =
    (after ≡ stopped_for Crashed (logged before.log Crash) before.told) ⊎ (after ≡ stopped_for Memory before.log before.told)

-- whether the command is the first of those whose answers nobody awaits
abbrev pub is_first : CommandId → List CommandId → Bool
is_first id [] = false
is_first id (first ∷ others) = is_eq (compare_ids first id)

-- these are left of them: the first isn't, once its answer is there
abbrev pub still_told : List CommandId → Awaited Global → List CommandId
still_told [] awaited = []
still_told (first ∷ others) awaited = if is_some (answer_of first awaited) then others else first ∷ others

-- the answer to the first of them isn't there
abbrev pub IsGone : List CommandId → Awaited Global → Type 0
IsGone [] awaited = Unit {0}
IsGone (first ∷ others) awaited = answer_of first awaited ≡ None

-- what the node of this number begins with
abbrev pub opening_of : Setup → ℕ → Opening Global
opening_of setup me = record {
  me = me;
  cluster = setup.cluster;
  window = setup.window;
  names = setup.names;
  limits = setup.limits;
  kept = setup.kept;
  keys = setup.keys;
}

-- a log of the node of this number
abbrev pub IsLogOf : Setup → ℕ → NodeLog Global → Type 0
IsLogOf setup me log = log.opening ≡ opening_of setup me

-- some log of the node leads to this outcome of the user's command
abbrev pub IsAnswered : Setup → ℕ → List ℕ → Ticket → Outcome Global → Type 0
IsAnswered setup me user ticket outcome =
    (log : NodeLog Global) × IsLogOf setup me log × (answered log (record { user = user; ticket = ticket }) ≡ Some outcome)

-- the outcome of an operation that the node was given for the user: it has a ticket, and it is one that the operation may have
abbrev pub IsOutcomeFor : Setup → ℕ → List ℕ → Op Global → Option Ticket → Outcome Global → Type 0
IsOutcomeFor setup me user op None outcome = ⊥
IsOutcomeFor setup me user op (Some ticket) outcome = IsAnswered setup me user ticket outcome × (may_answer outcome op ≡ true)

-- what a desk of the node gives: tickets of the node, and outcomes to which a log of the node leads
pub record IsGiven (setup : Setup) (me : ℕ) (given : Given Global) : Type 0 where
  pub ticket : IfSome given.ticket (λ ticket. ticket.node ≡ me)
  pub outcome : IfSome given.outcome (IsOutcomeFor setup me given.user given.op given.ticket)

-- how a node of this log stands
abbrev pub status_in : Bool → NodeState Global → Status
status_in up n = record {
  up = up;
  active = phase_is_active n.leader.phase;
  slot_out = n.replica.slot_out;
  waiting = is_waiting n.replica.awaited;
}

abbrev pub status_of : Bool → NodeLog Global → Status
status_of up log = status_in up (replayed log)

-- how the node of this number may stand: while it is up, as some log of it says
abbrev pub IsStatusOf : Setup → ℕ → Status → Type 0
IsStatusOf setup me status = status.up ≡ true → (log : NodeLog Global) × IsLogOf setup me log × (status ≡ status_of true log)
