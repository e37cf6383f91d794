-- Which commands are answered, as the replays say.
use Rattle.std.specs.Prelude.{◌≡◌, ℕ, length, List, Bool, true, false, Option, Some, None, slice_get, take, is_some}
use Rattle.std.specs.List.{list_all}
use Rattle.maildrop.specs.CommandId.{CommandId}
use Rattle.node.specs.declared.log.NodeLog.{NodeLog}
use Rattle.session.specs.declared.transcript.Asked.{Asked}
use Rattle.session.specs.declared.transcript.Transcript.{Transcript}
use Rattle.audit.specs.Names.{entry_keys}
use Rattle.audit.specs.Nodes.{Replayed}
use Rattle.audit.specs.Records.{place_of}
use Rattle.audit.specs.Replays.{answer}

-- what an entry without a ticket asked needs no answer
abbrev pub needs_no_more : (CommandId → Bool) → Option CommandId → Bool
needs_no_more answered None = true
needs_no_more answered (Some id) = answered id

module _ {A : Type 0} where
  abbrev pub has_answer_at : CommandId → Option (Replayed A) → Bool
  has_answer_at id None = false
  has_answer_at id (Some replay) = is_some (answer replay.state id)

  -- the node of its ticket has answered it
  abbrev pub is_answered_by : List (NodeLog A) → List (Replayed A) → CommandId → Bool
  is_answered_by logs replays id = has_answer_at id (slice_get replays (place_of id.ticket.node logs))

  -- what the first entries asked is answered
  abbrev pub are_answered : (CommandId → Bool) → ℕ → List (Asked A) → Bool
  are_answered answered count entries = list_all answered (entry_keys (take count entries))

  abbrev pub are_answered_in : (CommandId → Bool) → ℕ → Option (Transcript A) → Bool
  are_answered_in answered count None = false
  are_answered_in answered count (Some t) = are_answered answered count t.asked

  -- what a session asked before its entry at this place is answered
  abbrev pub is_turn : (CommandId → Bool) → List (Transcript A) → Option (ℕ × ℕ) → Bool
  is_turn answered transcripts None = false
  is_turn answered transcripts (Some place) = are_answered_in answered place.1 (slice_get transcripts place.0)

  -- of each session the first entries, so many, are answered
  pub record AreAnswered (answered : CommandId → Bool) (transcripts : List (Transcript A)) (counts : List ℕ) : Type 0 where
    pub count : length counts ≡ length transcripts
    pub each : (i : ℕ) (t : Transcript A) (known : ℕ) → slice_get transcripts i ≡ Some t → slice_get counts i ≡ Some known → are_answered answered known t.asked ≡ true
