use Rattle.audit.proofs.Openings.{Made}
use Rattle.audit.proofs.write.speakers_of.Given as goal

abbrev pub invariant-loop-session : goal.invariant-loop-session
invariant-loop-session g l = Made l.logs l.transcripts l.session l.speakers.items
