use Rattle.proposer.proofs.Heard.{adoptions_are_promised}
use Rattle.proposer.proofs.laws.scouts_adopt_what_a_majority_told.Goals as goal

pub returns : goal.returns
returns g c = adoptions_are_promised g.C.Payload.equal g.met.C.Payload.equality
