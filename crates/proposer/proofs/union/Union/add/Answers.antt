use Rattle.proposer.proofs.Places.{place_if_added}
use Rattle.proposer.proofs.union.Union.add.Goals as goal

pub invariant_of-self-2 : goal.invariant_of-self-2
invariant_of-self-2 g c =
    let updates = c.in_ok-insert.ensures.updates in
    place_if_added c.push.result _ _ _ c.self.inside.pvalues c.push.new.self c.args.pvalue c.len.result c.self.invariant updates.0 updates.1 c.push.ensures.ok c.push.ensures.err
