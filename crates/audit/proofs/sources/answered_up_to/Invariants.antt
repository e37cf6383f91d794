use Rattle.std.proofs.Common.{◌≡◌, true}
use Rattle.audit.specs.Answered.{is_answered_by, are_answered}
use Rattle.audit.proofs.sources.answered_up_to.Given as goal

abbrev pub invariant-loop-number : goal.invariant-loop-number
invariant-loop-number g l = are_answered (is_answered_by l.logs l.replays) l.number l.asked ≡ true
