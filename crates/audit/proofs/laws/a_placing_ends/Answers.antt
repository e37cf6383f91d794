use Rattle.audit.proofs.Settled.{settled, enough, settles}
use Rattle.audit.specs.Records.{case_of}
use Rattle.audit.proofs.laws.a_placing_ends.Goals as goal

pub returns : goal.returns
returns g c = λ logs transcripts.
    let a = case_of logs transcripts in
    let s = settles a in
    (s.0, settled a (enough a), s.1, s.2)
