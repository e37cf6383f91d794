use Rattle.audit.proofs.Monotone.{stays_one}
use Rattle.audit.proofs.RealLaws.{real_laws}
use Rattle.audit.specs.Records.{case_of}
use Rattle.audit.proofs.laws.placing_takes_no_turn_away.Goals as goal

pub returns : goal.returns
returns g c = λ logs transcripts placed node other. stays_one (case_of logs transcripts) (real_laws logs transcripts) placed node other
