use Rattle.std.proofs.Common.{length}
use Rattle.audit.specs.Answered.{is_answered_by, AreAnswered}
use Rattle.audit.specs.Placings.{IsPlaced}
use Rattle.audit.proofs.Remaining.{HasMoved, inputs_left}
use Rattle.audit.proofs.pass.place_log.Given as goal

abbrev pub invariant-loop-moved : goal.invariant-loop-moved
invariant-loop-moved g l = record {
  placed : IsPlaced l.logs l.transcripts l.placing;
  answered : AreAnswered (is_answered_by l.logs l.placing.replays.items) l.transcripts l.answered.items;
  going : HasMoved l.initial.placing l.placing l.moved;
}

abbrev pub decreases-loop-moved : goal.decreases-loop-moved
decreases-loop-moved g l = inputs_left l.logs (length l.placing.placements.items)
