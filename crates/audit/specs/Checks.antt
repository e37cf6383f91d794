-- How entries are checked, one after another.
use Rattle.std.specs.Prelude.{◌≡◌, ◌⊎◌, ◌<◌, ℕ, length, List, [], ◌∷◌, Bool, true, false, Option, Some, None, ◌==◌, ◌&&◌, not, is_some, slice_get}
use Rattle.std.specs.List.{list_any}
use Rattle.maildrop.specs.CommandId.{CommandId, same_id}
use Rattle.maildrop.specs.Same.{same_outcome}
use Rattle.maildrop.specs.Ticket.{Ticket}
use Rattle.maildrop.specs.declared.outcome.Outcome.{Outcome}
use Rattle.node.specs.Nodes.{NodeValue}
use Rattle.node.specs.declared.input.Input.{Input}
use Rattle.node.specs.declared.input.Input.TheVariants.{Submit}
use Rattle.node.specs.declared.log.NodeLog.{NodeLog}
use Rattle.session.specs.declared.transcript.Asked.{Asked}
use Rattle.session.specs.declared.transcript.Transcript.{Transcript}
use Rattle.audit.specs.Case.{state_at}
use Rattle.audit.specs.Names.{entry_key, with_key}
use Rattle.audit.specs.Nodes.{Replayed, answers_left}
use Rattle.audit.specs.Numbers.{submitted_by, AreNumbered}
use Rattle.audit.specs.Records.{case_of}
use Rattle.audit.specs.Replays.{Replay, answer}
use Rattle.audit.specs.declared.numbers.Numbers.{Numbers}

-- what was found is the entry of this number in this session
abbrev pub is_place : ℕ → ℕ → Option (ℕ × ℕ) → Bool
is_place session number None = false
is_place session number (Some found) = found.0 == session && found.1 == number

-- these commands were named
abbrev pub was_named : List CommandId → CommandId → Bool
was_named named id = list_any (λ other. same_id id other) named

-- the place of an entry that comes before that of number j in session i
pub record IsEarlier (found : Option (ℕ × ℕ)) (i j : ℕ) : Type 0 where
  pub session : ℕ
  pub number : ℕ
  pub place : found ≡ Some (session, number)
  pub before : (session < i) ⊎ ((session ≡ i) × (number < j))

-- Before entry j of session i: the first entries that name commands are found; those of commands that were named are
-- earlier, and the others are those of the rest.
pub record AreFound (i j : ℕ) (named : List CommandId) (rest found : CommandId → Option (ℕ × ℕ)) : Type 0 where
  pub old : (id : CommandId) → was_named named id ≡ true → IsEarlier (found id) i j
  pub new : (id : CommandId) → was_named named id ≡ false → found id ≡ rest id

abbrev pub node_by : Option Ticket → Option ℕ → Option ℕ
node_by None otherwise = otherwise
node_by (Some ticket) otherwise = Some ticket.node

module _ {A : Type 0} where
  -- the Submit that an entry tells
  abbrev pub submit_of : Asked A → Input A
  submit_of entry = Submit entry.name entry.op

  -- the outcome that an entry tells, if it does, is the answer
  abbrev pub is_answer : Option (Outcome A) → Option (Outcome A) → Bool
  is_answer None found = true
  is_answer (Some outcome) None = false
  is_answer (Some outcome) (Some found) = same_outcome outcome found

  -- the answers to all commands but those that were named
  pub record IsLeft (state : Replay A) (named : List CommandId) (node : Option (NodeValue A)) : Type 0 where
    pub begun : is_some node ≡ is_some state
    pub left : (id : CommandId) → was_named named id ≡ false → answers_left node id ≡ answer state id

  -- an entry with this identity, of a session at the node of this log
  abbrev pub is_right : NodeLog A → Replay A → List CommandId → Asked A → Option CommandId → Bool
  is_right log state named entry None = true
  is_right log state named entry (Some id) =
      (is_some state && submitted_by log id (submit_of entry) (length log.inputs))
      && (not (was_named named id) && (id.ticket.node == log.opening.me && is_answer entry.outcome (answer state id)))

  abbrev pub are_right : NodeLog A → Replay A → List CommandId → List (Asked A) → Bool
  are_right log state named [] = true
  are_right log state named (entry ∷ entries) =
      is_right log state named entry (entry_key entry) && are_right log state (with_key (entry_key entry) named) entries

  -- the commands that are named after these entries, the last first
  abbrev pub named_after : List CommandId → List (Asked A) → List CommandId
  named_after named [] = named
  named_after named (entry ∷ entries) = named_after (with_key (entry_key entry) named) entries

  -- the node of the first ticket
  abbrev pub first_node : List (Asked A) → Option ℕ
  first_node [] = None
  first_node (entry ∷ entries) = node_by entry.ticket (first_node entries)

module _ {A : Type 0} (logs : List (NodeLog A)) (transcripts : List (Transcript A)) where
  -- what a log leads to
  abbrev pub end_state : ℕ → Replay A
  end_state n = state_at (case_of logs transcripts) n (length ((case_of logs transcripts).logs n))

  -- the whole of each log was replayed
  pub record AreReplayed (replays : List (Replayed A)) : Type 0 where
    pub count : length replays ≡ length logs
    pub each : (n : ℕ) (replay : Replayed A) → slice_get replays n ≡ Some replay → replay.state ≡ end_state n

  -- the answers to all commands but those that were named, of each log's node
  pub record AreLeft (named : List CommandId) (outcomes : List (Option (NodeValue A))) : Type 0 where
    pub count : length outcomes ≡ length logs
    pub each : (n : ℕ) (node : Option (NodeValue A)) → slice_get outcomes n ≡ Some node → IsLeft (end_state n) named node

-- the numbers of each log
pub record AreAllNumbered {A : Type 0} (logs : List (NodeLog A)) (numbers : List (Numbers A)) : Type 0 where
  pub count : length numbers ≡ length logs
  pub each : (n : ℕ) (log : NodeLog A) (its : Numbers A) → slice_get logs n ≡ Some log → slice_get numbers n ≡ Some its → AreNumbered log (length log.inputs) its.tickets.items its.places.entries
