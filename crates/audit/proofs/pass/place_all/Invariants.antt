use Rattle.std.proofs.Common.{length}
use Rattle.audit.specs.Answered.{is_answered_by, AreAnswered}
use Rattle.audit.specs.Placings.{IsPlaced}
use Rattle.audit.proofs.Remaining.{inputs_left}
use Rattle.audit.proofs.pass.place_all.Given as goal

abbrev pub invariant-loop-answered : goal.invariant-loop-answered
invariant-loop-answered g l = record {
  placed : IsPlaced l.logs l.transcripts l.placing;
  answered : AreAnswered (is_answered_by l.logs l.placing.replays.items) l.transcripts l.answered.items;
}

abbrev pub decreases-loop-answered : goal.decreases-loop-answered
decreases-loop-answered g l = inputs_left l.logs (length l.placing.placements.items)
