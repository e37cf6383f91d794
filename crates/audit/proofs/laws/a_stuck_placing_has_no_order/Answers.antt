use Rattle.audit.proofs.Complete.{no_order}
use Rattle.audit.proofs.RealLaws.{real_laws}
use Rattle.audit.specs.Records.{case_of}
use Rattle.audit.proofs.laws.a_stuck_placing_has_no_order.Goals as goal

pub returns : goal.returns
returns g c = λ logs transcripts. no_order (case_of logs transcripts) (real_laws logs transcripts)
