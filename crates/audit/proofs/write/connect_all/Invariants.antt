use Rattle.std.proofs.Common.{◌≡◌, ◌++◌}
use Rattle.audit.specs.Records.{case_of}
use Rattle.audit.specs.Speakers.{AreSeated}
use Rattle.audit.specs.Written.{connects}
use Rattle.audit.specs.Wrong.{seat}
use Rattle.audit.proofs.write.connect_all.Given as goal

abbrev pub invariant-loop-session : goal.invariant-loop-session
invariant-loop-session g l =
    AreSeated l.logs l.transcripts → l.events.items ≡ l.initial.events.items ++ connects (case_of l.logs l.transcripts) (seat (case_of l.logs l.transcripts)) l.session
