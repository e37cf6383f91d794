use Rattle.world.specs.Hosts.{crashes_of, network_of}
use Rattle.world.proofs.Crashes.{crash_at_place}
use Rattle.world.proofs.HostList.{node_at}
use Rattle.world.proofs.nodes.Nodes.performed.Goals as goal

pub returns-clause-value : goal.returns-clause-value
returns-clause-value g c = rw (node_at (network_of c.args.self.now).logs c.place_of.result c.args.node c.place_of.ensures) c.performed_at.ensures.value

pub returns-clause-known : goal.returns-clause-known
returns-clause-known g c =
    rw (node_at (network_of c.args.self.now).logs c.place_of.result c.args.node c.place_of.ensures, crash_at_place (crashes_of c.args.self.now) c.place_of.result c.args.node c.place_of.ensures) c.performed_at.ensures.known
