use Rattle.std.specs.Prelude.{slice_get}
use Rattle.world.specs.Hosts.{network_of}
use Rattle.world.proofs.Blocks.{index_rises, arrived_rises}
use Rattle.world.proofs.hosts.Hosts.arrive.Goals as goal

pub refresh-requires : goal.refresh-requires
refresh-requires g c =
    let old = network_of c.self.inside.nodes in
    let new = network_of c.arrive-arrived.new.self in
    index_rises old new c.self.inside.index.items (arrived_rises c.arrive-arrived.result old new c.args.which (slice_get c.self.inside.nodes.sent c.args.which) c.arrive-arrived.ensures.ok c.arrive-arrived.ensures.err) c.self.invariant
