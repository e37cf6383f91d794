use Rattle.world.specs.Hosts.{network_of}
use Rattle.world.proofs.Blocks.{index_rises, taken_rises}
use Rattle.world.proofs.hosts.Hosts.take.Goals as goal

pub take_in-requires : goal.take_in-requires
take_in-requires g c =
    let old = network_of c.self.inside.nodes in
    let new = network_of c.take-taken.new.self in
    index_rises old new c.self.inside.index.items (taken_rises c.take-taken.result old new c.args.node c.args.input c.take-taken.ensures.ok c.take-taken.ensures.err) c.self.invariant
