-- Where nothing is wrong, sessions are at nodes with logs.
use Rattle.std.proofs.Common.{◌≡◌, ℕ, ◌<◌, length, List, [], None, arith}
use Rattle.std.proofs.lemmas.Option.{slice_get_within}
use Rattle.ballot.specs.Lists.{IsIn}
use Rattle.node.specs.declared.log.NodeLog.{NodeLog}
use Rattle.session.specs.declared.transcript.Transcript.{Transcript}
use Rattle.audit.specs.Records.{RealCase, case_of, AreFit}
use Rattle.audit.specs.Speakers.{AreSeated}
use Rattle.audit.specs.Wrong.{seat, first_wrong}
use Rattle.audit.proofs.Fit.{from_place, seats_there}

module _ {A : Type 0} (logs : List (NodeLog A)) (transcripts : List (Transcript A)) where
  abbrev real : RealCase A
  real = case_of logs transcripts

  pub seated : AreFit logs transcripts → first_wrong real 0 [] real.scripts ≡ None → AreSeated logs transcripts
  seated fit right = record { each = λ i turns e. there (seat real i) (seats_there logs transcripts fit right i turns e) }
    where
      there : (n : ℕ) → IsIn n real.nodes → n < length logs
      there n h =
          let r = from_place 0 n logs h in
          let is = r.2 in
          let less = slice_get_within logs r.0 r.1 r.3 in
          omega (arith, is, less)
