use Rattle.audit.proofs.LastKeys.{Answered}
use Rattle.audit.proofs.last_answers.answered_of.Given as goal

abbrev pub invariant-loop-transcript : goal.invariant-loop-transcript
invariant-loop-transcript g l = Answered l.logs l.transcripts l.transcript-index l.answered.items
