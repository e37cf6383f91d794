-- What is kept while inputs are placed one at a time.
use Rattle.std.specs.Prelude.{◌≡◌, ◌<◌, ℕ, suc, length, List, [], ◌∷◌, ◌++◌, Bool, Option, Some, None, true, false, slice_get, set}
use Rattle.std.specs.List.{list_any}
use Rattle.ballot.specs.declared.message.Envelope.{Envelope}
use Rattle.maildrop.specs.declared.command.Command.{Command}
use Rattle.node.specs.declared.input.Input.{Input}
use Rattle.node.specs.declared.log.NodeLog.{NodeLog}
use Rattle.session.specs.declared.transcript.Transcript.{Transcript}
use Rattle.audit.specs.Audits.{IsReached}
use Rattle.audit.specs.Case.{next, state_at}
use Rattle.audit.specs.Nodes.{Replayed, counts_of}
use Rattle.audit.specs.Placing.{can_place, is_stuck, was_sent}
use Rattle.audit.specs.Records.{case_of, begun_at}
use Rattle.audit.specs.Replays as spec
use Rattle.audit.specs.Same.{same_envelope}
use Rattle.audit.specs.Written.{IsFrom, ArePlaced}
use Rattle.audit.specs.declared.placement.Placement.{Placement}
use Rattle.audit.specs.declared.placement.Source.{Source}
use Rattle.audit.specs.declared.placing.Placing.{Placing}

-- no input of any log has come
pub record AreBegun {A : Type 0} (logs : List (NodeLog A)) (replays : List (Replayed A)) : Type 0 where
  pub count : length replays ≡ length logs
  pub each : (n : ℕ) (r : Replayed A) → slice_get replays n ≡ Some r → (r.state ≡ begun_at logs n (slice_get logs n)) × (r.placed ≡ 0)

-- the next input of a log, which this brings, has come to its replay
pub record HasTaken {A : Type 0} (before after : Placing A) (n : ℕ) (input : Input A) (source : Source) : Type 0 where
  pub replay : Replayed A
  pub its : slice_get before.replays.items n ≡ Some replay
  pub replays : after.replays.items ≡ set before.replays.items n (record { state = spec.after replay.state input; placed = suc replay.placed })
  pub sent : after.sent ≡ before.sent ++ spec.sends replay.state input
  pub placements : after.placements.items ≡ before.placements.items ++ record { node = n; source = source } ∷ []

module _ {A : Type 0} (logs : List (NodeLog A)) (transcripts : List (Transcript A)) where
  -- each replay is that of a log, as far as its inputs have come
  pub record AreOnTheWay (replays : List (Replayed A)) : Type 0 where
    pub count : length replays ≡ length logs
    pub each : (n : ℕ) (r : Replayed A) → slice_get replays n ≡ Some r → r.state ≡ state_at (case_of logs transcripts) n r.placed

  -- these are the messages that what is placed has sent
  pub record AreSent (placed : ℕ → ℕ) (sent : List (Envelope (Command A) A)) : Type 0 where
    pub each : (e : Envelope (Command A) A) → list_any (λ other. same_envelope other e) sent ≡ was_sent (case_of logs transcripts) placed e

  -- with these placements first, whatever places all that is left places all
  pub record ArePlacedBy (placed : ℕ → ℕ) (sent : List (Envelope (Command A) A)) (placements : List Placement) : Type 0 where
    pub onwards : (rest : List Placement) → ArePlaced (case_of logs transcripts) placed sent rest → ArePlaced (case_of logs transcripts) (λ n. 0) [] (placements ++ rest)

  -- inputs were placed one at a time, each when it could come
  pub record IsPlaced (placing : Placing A) : Type 0 where
    pub replayed : AreOnTheWay placing.replays.items
    pub messages : AreSent (counts_of placing.replays.items) placing.sent
    pub reached : IsReached (case_of logs transcripts) (counts_of placing.replays.items)
    pub written : ArePlacedBy (counts_of placing.replays.items) placing.sent placing.placements.items
    pub counted : length reached.order ≡ length placing.placements.items

  -- until none could come any more
  pub record IsSettled (placing : Placing A) : Type 0 where
    pub placed : IsPlaced placing
    pub stuck : is_stuck (case_of logs transcripts) (counts_of placing.replays.items) ≡ true

  -- the next input of the log can come, and this brings it
  pub record CanCome (placed : ℕ → ℕ) (sent : List (Envelope (Command A) A)) (n : ℕ) (source : Source) : Type 0 where
    pub input : Input A
    pub is : next (case_of logs transcripts) n (placed n) ≡ Some input
    pub can : can_place (case_of logs transcripts) placed n ≡ true
    pub by : IsFrom (case_of logs transcripts) placed sent n input source

  abbrev pub IsNext : (ℕ → ℕ) → List (Envelope (Command A) A) → ℕ → Option Source → Type 0
  IsNext placed sent n None = can_place (case_of logs transcripts) placed n ≡ false
  IsNext placed sent n (Some source) = CanCome placed sent n source

  -- an input of the log was placed, or none, if none could come
  abbrev pub IsMoved : ℕ → Placing A → Placing A → Bool → Type 0
  IsMoved n before after false = (after ≡ before) × (can_place (case_of logs transcripts) (counts_of after.replays.items) n ≡ false)
  IsMoved n before after true = length after.placements.items ≡ suc (length before.placements.items)

  -- inputs of the log were placed until none could come, or none was
  abbrev pub HasGone : ℕ → Placing A → Placing A → Bool → Type 0
  HasGone n before after false = (after ≡ before) × (can_place (case_of logs transcripts) (counts_of after.replays.items) n ≡ false)
  HasGone n before after true = length before.placements.items < length after.placements.items

  -- inputs of the first logs were placed, or none, if none of them could come
  abbrev pub HavePassed : ℕ → Placing A → Placing A → Bool → Type 0
  HavePassed count before after false = (after ≡ before) × ((n : ℕ) → n < count → can_place (case_of logs transcripts) (counts_of after.replays.items) n ≡ false)
  HavePassed count before after true = length before.placements.items < length after.placements.items
