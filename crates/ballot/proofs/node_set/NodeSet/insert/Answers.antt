use Rattle.std.proofs.Common.{◌<◌, length, arith, lit<}
use Rattle.ballot.proofs.Nodes.{length-room}
use Rattle.ballot.proofs.node_set.NodeSet.insert.Goals as goal

pub insert-requires : goal.insert-requires
insert-requires c =
    let items = c.self.inside.numbers.items in
    let room : length items < 9 = length-room 9 c.args.node items c.get.ensures.range.0 c.get.ensures.range.1 (rw (← c.self.view_is) at c.requires) c.self.invariant in
    (lit< tt, (omega arith, room))
