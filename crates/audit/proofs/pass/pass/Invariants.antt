use Rattle.audit.specs.Answered.{is_answered_by, AreAnswered}
use Rattle.audit.specs.Placings.{IsPlaced}
use Rattle.audit.proofs.Remaining.{HasMoved, AreStuck}
use Rattle.audit.proofs.pass.pass.Given as goal

abbrev pub invariant-loop-node : goal.invariant-loop-node
invariant-loop-node g l = record {
  placed : IsPlaced l.logs l.transcripts l.placing;
  answered : AreAnswered (is_answered_by l.logs l.placing.replays.items) l.transcripts l.answered.items;
  going : HasMoved l.initial.placing l.placing l.moved;
  stuck : AreStuck l.logs l.transcripts l.placing l.moved l.node;
}
