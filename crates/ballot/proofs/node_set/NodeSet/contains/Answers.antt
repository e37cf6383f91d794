use Rattle.std.proofs.Common.{◌∙◌}
use Rattle.ballot.proofs.Nodes.{is_among-list_any}
use Rattle.ballot.proofs.node_set.NodeSet.contains.Goals as goal

pub returns : goal.returns
returns c =
    rw (← c.self.view_is, ← c.get.ensures.value) (c.contains.ensures.value ∙ rw c.as_slice.ensures.value (is_among-list_any c.get.result c.self.inside.numbers.items))
