use Rattle.audit.proofs.Largest.{all_within}
use Rattle.audit.proofs.RealLaws.{real_laws}
use Rattle.audit.specs.Records.{case_of}
use Rattle.audit.proofs.laws.a_stuck_placing_holds_every_placing.Goals as goal

pub returns : goal.returns
returns g c = λ logs transcripts stuck none. all_within (case_of logs transcripts) (real_laws logs transcripts) stuck none
