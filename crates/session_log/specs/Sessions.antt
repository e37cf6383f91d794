-- What is known of a session, and what changes it.
use Rattle.std.specs.Prelude.{ℕ, ◌+◌, ◌-◌, ◌^◌, min, nat_eq, length, Bool, true, false, ◌&&◌, List, [], ◌∷◌, codes, Option, Some, None, if◌then◌else◌}
use Rattle.std.specs.List.{starts_with, ends_with}
use Rattle.std.specs.Str.{bytes_eq}
use Rattle.std.specs.Str.Lines.{lines}
use Rattle.maildrop.specs.declared.op.Op.{Op}
use Rattle.maildrop.specs.declared.op.Op.TheVariants as op
use Rattle.maildrop.specs.declared.outcome.Outcome.{Outcome}
use Rattle.maildrop.specs.declared.outcome.Outcome.TheVariants as outcome
use Rattle.session.specs.declared.transcript.End.{End}
use Rattle.session.specs.declared.transcript.End.TheVariants as end
use Rattle.session_log.specs.declared.facts.Cut.{Cut}
use Rattle.session_log.specs.declared.facts.Cut.TheVariants as cut
use Rattle.session_log.specs.declared.facts.ReplyKind.{ReplyKind}
use Rattle.session_log.specs.declared.facts.ReplyKind.TheVariants as reply
use Rattle.session_log.specs.declared.facts.AskedKind.{AskedKind}
use Rattle.session_log.specs.declared.facts.AskedKind.TheVariants as asked
use Rattle.session_log.specs.declared.facts.Ending.{Ending}
use Rattle.session_log.specs.declared.facts.Ending.TheVariants as ending
use Rattle.session_log.specs.declared.facts.SessionFacts.{SessionFacts}
use Rattle.std.specs.declared.time.Instant.{Instant}

-- a count that stays at the highest number of 64 bits
abbrev pub added : ℕ → ℕ → ℕ
added count more = min (count + more) (2 ^ 64 - 1)

abbrev pub no_facts : SessionFacts
no_facts = record {
  user = None;
  bytes_read = 0;
  bytes_written = 0;
  fetched = 0;
  removed = 0;
  refused = 0;
  begins_reply = false;
  owes_pause = false;
  cut = None;
  awaits_line_since = None;
}

-- the first line of a reply to RETR (RFC 1939 section 5), without its line end
abbrev pub announces_message : List ℕ → Bool
announces_message line = starts_with nat_eq line (codes "+OK ") && ends_with nat_eq line (codes " octets")

abbrev pub is_message_in : List (List ℕ) → Bool
is_message_in [] = false
is_message_in (line ∷ others) = announces_message line

abbrev pub is_message : List ℕ → Bool
is_message text = is_message_in (lines text)

-- what kind of reply begins with this, if the first text is the reply to a login that is refused
abbrev pub reply_kind : List ℕ → List ℕ → ReplyKind
reply_kind refusal text =
    if bytes_eq text refusal then reply.Refusal else if is_message text then reply.Message else reply.Other

abbrev pub is_refusal : ReplyKind → Bool
is_refusal reply.Refusal = true
is_refusal reply.Message = false
is_refusal reply.Other = false

module _ {A : Type 0} where
  abbrev pub asked_kind : Op A → AskedKind
  asked_kind (op.Mail text key) = asked.Other
  asked_kind op.Take = asked.Take
  asked_kind (op.Commit lock uids) = asked.Commit (length uids)
  asked_kind (op.Free lock) = asked.Other
  asked_kind op.Break = asked.Other

  -- a login that got the lock, and a QUIT that removed messages
  abbrev pub after_answer : List ℕ → AskedKind → Outcome A → SessionFacts → SessionFacts
  after_answer user asked.Take (outcome.Taken messages) facts = record facts { user = Some user }
  after_answer user (asked.Commit count) outcome.Done facts = record facts { removed = added facts.removed count }
  after_answer user kind answer facts = facts

abbrev pub ending_of_fault : Option Cut → Ending
ending_of_fault None = ending.ReadFault
ending_of_fault (Some cut.Idle) = ending.Idle
ending_of_fault (Some cut.TooMuch) = ending.TooMuch

-- what an operator is told of the end of a session whose client was read no further for this
abbrev pub ending_of : End → Option Cut → Ending
ending_of end.Closed cause = ending.Closed
ending_of end.HungUp cause = ending.HungUp
ending_of end.ReadFault cause = ending_of_fault cause
ending_of end.WriteFault cause = ending.WriteFault
ending_of end.DeskStopped cause = ending.Stopped
ending_of end.Memory cause = ending.NoMemory

abbrev pub after_read : ℕ → SessionFacts → SessionFacts
after_read count facts = record facts { bytes_read = added facts.bytes_read count; awaits_line_since = None }

-- a line is awaited of which nothing has come since then
abbrev pub after_awaiting : Option Instant → SessionFacts → SessionFacts
after_awaiting since facts = record facts { awaits_line_since = since }

abbrev pub after_cut : Cut → SessionFacts → SessionFacts
after_cut cause facts = record facts { cut = Some cause }

abbrev pub after_line : SessionFacts → SessionFacts
after_line facts = record facts { begins_reply = true }

-- a reply begins: a refusal and a message are counted
abbrev pub after_beginning : ReplyKind → SessionFacts → SessionFacts
after_beginning reply.Refusal facts = record facts { begins_reply = false; refused = added facts.refused 1; owes_pause = true }
after_beginning reply.Message facts = record facts { begins_reply = false; fetched = added facts.fetched 1 }
after_beginning reply.Other facts = record facts { begins_reply = false }

abbrev pub with_written : ℕ → SessionFacts → SessionFacts
with_written count facts = record facts { bytes_written = added facts.bytes_written count }

-- so many bytes of this piece were taken: the first piece after a line is looked at
abbrev pub after_write : List ℕ → List ℕ → ℕ → SessionFacts → SessionFacts
after_write refusal piece count facts =
    if facts.begins_reply then after_beginning (reply_kind refusal piece) (with_written count facts) else with_written count facts

abbrev pub begins_refusal : List ℕ → List ℕ → SessionFacts → Bool
begins_refusal refusal piece facts = facts.begins_reply && is_refusal (reply_kind refusal piece)

abbrev pub after_pause : SessionFacts → SessionFacts
after_pause facts = record facts { owes_pause = false }
