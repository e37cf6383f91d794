-- The lines that a run of a script writes.
use Rattle.std.specs.Prelude.{ℕ, List, ◌++◌, codes, decimal}
use Rattle.std.specs.List.{flat_map}
use Rattle.std.specs.Str.Lines.{lines}
use Rattle.maildrop.specs.Ticket.{Ticket}
use Rattle.maildrop.specs.declared.command.Command.{Command}
use Rattle.maildrop.specs.declared.op.Op.{Op}
use Rattle.maildrop.specs.declared.op.Op.TheVariants as op
use Rattle.maildrop.specs.declared.outcome.Outcome.{Outcome}
use Rattle.maildrop.specs.declared.outcome.Outcome.TheVariants as outcome
use Rattle.script.specs.declared.refusal.Refusal.{Refusal}
use Rattle.script.specs.declared.refusal.Refusal.TheVariants as refusal

abbrev pub line_end : List ℕ
line_end = codes "\n"

-- NODE/SEQ
abbrev pub ticket_text : Ticket → List ℕ
ticket_text ticket = decimal ticket.node ++ codes "/" ++ decimal ticket.seq

-- whose command, and which of them: USER NODE/SEQ
abbrev pub command_text : List ℕ → Ticket → List ℕ
command_text user ticket = user ++ codes " " ++ ticket_text ticket

abbrev pub refusal_number : Refusal → ℕ
refusal_number refusal.NotSent = 1
refusal_number refusal.Down = 2
refusal_number refusal.NoSession = 3
refusal_number refusal.Busy = 4
refusal_number refusal.NoSuchUser = 5
refusal_number refusal.SessionExists = 6

abbrev pub refusal_name : Refusal → List ℕ
refusal_name refusal.NotSent = codes "NotSent"
refusal_name refusal.Down = codes "Down"
refusal_name refusal.NoSession = codes "NoSession"
refusal_name refusal.Busy = codes "Busy"
refusal_name refusal.NoSuchUser = codes "NoSuchUser"
refusal_name refusal.SessionExists = codes "SessionExists"

-- refused NUMBER NAME
abbrev pub refusal_line : Refusal → List ℕ
refusal_line why = codes "refused " ++ decimal (refusal_number why) ++ codes " " ++ refusal_name why ++ line_end

-- node N performed K
abbrev pub performed_line : ℕ → ℕ → List ℕ
performed_line node count = codes "node " ++ decimal node ++ codes " performed " ++ decimal count ++ line_end

-- a line that a session's client got: sK|LINE
abbrev pub reply_line : ℕ → List ℕ → List ℕ
reply_line session line = codes "s" ++ decimal session ++ codes "|" ++ line ++ line_end

-- the lines of replies, each without its CR and LF
abbrev pub reply_lines : ℕ → List ℕ → List ℕ
reply_lines session replies = flat_map (reply_line session) (lines replies)

module _ {A : Type 0} where
  abbrev pub outcome_text : Outcome A → List ℕ
  outcome_text outcome.NoSuchUser = codes "no such user"
  outcome_text outcome.TooLarge = codes "too large"
  outcome_text outcome.Full = codes "full"
  outcome_text outcome.IdsUsed = codes "ids used"
  outcome_text (outcome.Stored uid) = codes "stored " ++ decimal uid
  outcome_text outcome.InUse = codes "in use"
  outcome_text (outcome.Taken taken) = codes "taken"
  outcome_text outcome.Done = codes "done"
  outcome_text outcome.NotHolder = codes "not holder"

  -- op USER NODE/SEQ OUTCOME
  abbrev pub outcome_line : List ℕ → Ticket → Outcome A → List ℕ
  outcome_line user ticket answer = codes "op " ++ command_text user ticket ++ codes " " ++ outcome_text answer ++ line_end

  abbrev pub op_text : Op A → List ℕ
  op_text (op.Mail text key) = codes "mail"
  op_text op.Take = codes "take"
  op_text (op.Commit lock uids) = codes "commit"
  op_text (op.Free lock) = codes "free"
  op_text op.Break = codes "break"

  -- slot S USER NODE/SEQ OP
  abbrev pub slot_line : ℕ → Command A → List ℕ
  slot_line slot command = codes "slot " ++ decimal slot ++ codes " " ++ command_text command.user command.ticket ++ codes " " ++ op_text command.op ++ line_end
