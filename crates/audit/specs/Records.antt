-- The logs and the transcripts of a service that ran.
use Rattle.std.specs.Prelude.{◌≡◌, ◌<◌, ℕ, suc, true, length, Bool, List, [], ◌∷◌, map, Option, Some, None, ◌==◌, ◌&&◌, slice_get, if◌then◌else◌}
use Rattle.ballot.specs.declared.message.Envelope.{Envelope}
use Rattle.maildrop.specs.CommandId.{CommandId, same_id}
use Rattle.maildrop.specs.Name.{are_different}
use Rattle.maildrop.specs.Same.{same_outcome}
use Rattle.maildrop.specs.declared.command.Command.{Command}
use Rattle.maildrop.specs.declared.outcome.Outcome.{Outcome}
use Rattle.node.specs.Nodes.{can_begin}
use Rattle.node.specs.declared.input.Input.{Input}
use Rattle.node.specs.declared.log.NodeLog.{NodeLog}
use Rattle.node.specs.declared.log.Opening.{Opening}
use Rattle.pop3_wire.specs.declared.line.Line.{Line}
use Rattle.session.specs.declared.transcript.Transcript.{Transcript}
use Rattle.audit.specs.Case.{Case}
use Rattle.audit.specs.Replays.{Replay, after, sends, runs, key_of, answer, brought, locks, same_submit}
use Rattle.audit.specs.Same.{same_envelope}
use Rattle.audit.specs.Turns.{Turns, script_of, is_loose}
use Rattle.audit.specs.Wrong.{IsScript}

abbrev pub places_from : {X : Type 0} → ℕ → List X → List ℕ
places_from place [] = []
places_from place (x ∷ xs) = place ∷ places_from (suc place) xs

abbrev pub RealCase : Type 0 → Type 0
RealCase A = Case (Replay A) (Input A) (Envelope (Command A) A) CommandId (Outcome A) Line

module _ {A : Type 0} where
  -- what a node can begin with
  abbrev pub is_fit : Opening A → Bool
  is_fit o = are_different o.names && can_begin o.me o.cluster o.window

  -- the place of the first log of this node, or after the last
  abbrev pub place_of : ℕ → List (NodeLog A) → ℕ
  place_of number [] = 0
  place_of number (log ∷ logs) = if log.opening.me == number then 0 else suc (place_of number logs)

  abbrev pub inputs_in : Option (NodeLog A) → List (Input A)
  inputs_in None = []
  inputs_in (Some log) = log.inputs

  abbrev pub number_in : Option (NodeLog A) → ℕ
  number_in None = 0
  number_in (Some log) = log.opening.me

  -- the node of a log before its first input: none where a node can't begin so, and where an earlier log is of its number
  abbrev pub begun_at : List (NodeLog A) → ℕ → Option (NodeLog A) → Replay A
  begun_at logs place None = None
  begun_at logs place (Some log) =
      if is_fit log.opening && place_of log.opening.me logs == place then Some (record { opening = log.opening; inputs = [] }) else None

  abbrev pub case_of : List (NodeLog A) → List (Transcript A) → RealCase A
  case_of logs transcripts = record {
    start = λ n. begun_at logs n (slice_get logs n);
    after = after;
    sends = sends;
    runs = runs;
    brought = brought;
    key_of = key_of;
    locks = locks;
    answer = answer;
    to = λ e. place_of e.to logs;
    home = λ k. place_of k.ticket.node logs;
    same_message = same_envelope;
    same_key = λ named key. same_id key named;
    same_input = same_submit;
    same_outcome = same_outcome;
    nodes = places_from 0 logs;
    number = λ n. number_in (slice_get logs n);
    logs = λ n. inputs_in (slice_get logs n);
    scripts = map script_of transcripts;
    loose = λ i. is_loose (slice_get transcripts i);
  }

  -- what a service that ran gives: at least one log, logs of different nodes, each of which can begin so, and sessions that ask for locks alone, take no line after an operation that wasn't answered, and hang up last
  pub record AreFit (logs : List (NodeLog A)) (transcripts : List (Transcript A)) : Type 0 where
    pub some : 0 < length logs
    pub openings : (n : ℕ) (log : NodeLog A) → slice_get logs n ≡ Some log → (is_fit log.opening ≡ true) × (place_of log.opening.me logs ≡ n)
    pub scripts : (i : ℕ) (turns : Turns A) → slice_get (case_of logs transcripts).scripts i ≡ Some (Some turns) → IsScript (case_of logs transcripts) turns
