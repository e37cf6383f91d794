use Rattle.proposer.proofs.Places.{places_taken}
use Rattle.proposer.proofs.union.Union.truncate.Goals as goal

pub invariant_of-self : goal.invariant_of-self
invariant_of-self g c = rw c.truncate.ensures (places_taken _ c.args.len c.self.inside.pvalues c.self.invariant)
