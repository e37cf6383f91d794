use Rattle.leader.proofs.Orderly.{always_orderly, called_orderly}
use Rattle.leader.proofs.laws.leaders_are_orderly.Goals as goal

pub returns : goal.returns
returns g c =
    record {
      always = λ me size. always_orderly g.row.A.Denot me size g.C.Payload.equal;
      after_each_call = λ me size. called_orderly g.row.A.Denot me size g.C.Payload.equal;
    }
