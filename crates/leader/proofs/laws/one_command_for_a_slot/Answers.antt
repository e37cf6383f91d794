use Rattle.leader.proofs.Asked.{asked_once}
use Rattle.leader.proofs.laws.one_command_for_a_slot.Goals as goal

pub returns : goal.returns
returns g c = asked_once g.row.A.Denot g.C.Payload.equal
