use Rattle.leader.proofs.Adoption.{adopted_highest, adopted_keeps}
use Rattle.leader.proofs.laws.adoptions_take_the_highest.Goals as goal

pub returns : goal.returns
returns g c = record { highest = λ l ps. adopted_highest ps l.proposals; others = λ l ps. adopted_keeps ps l.proposals }
