use Rattle.leader.proofs.Asked.{asked_of}
use Rattle.leader.proofs.laws.leaders_ask_for_their_proposals.Goals as goal

pub returns : goal.returns
returns g c = asked_of g.row.A.Denot g.C.Payload.equal
