use Rattle.node.proofs.Steps.{begun}
use Rattle.node.proofs.node.Node.open.Goals as goal

pub invariant_of-result : goal.invariant_of-result
invariant_of-result g c = begun _ c.new-2.result c.in_ok-roles.roles c.new-3.result.entries c.new-2.ensures c.in_ok-roles.ensures c.new-3.ensures.empty
