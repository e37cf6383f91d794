use Rattle.proposer.proofs.Places.{no_place}
use Rattle.proposer.proofs.union.Union.has.Goals as goal

pub returns-in_default : goal.returns-in_default
returns-in_default g c =
    rw (← c.self.view_is) (no_place g.C.Payload.equal g.met.C.Payload.equality _ c.self.inside.pvalues c.args.pvalue.now c.self.invariant (rw c.in_default.is at c.get.ensures.value))
