use Rattle.leader.proofs.Asked.{proposal_stays}
use Rattle.leader.proofs.laws.proposals_stay.Goals as goal

pub returns : goal.returns
returns g c = proposal_stays g.row.A.Denot g.C.Payload.equal
