use Rattle.world.proofs.Crashes.{either_way}
use Rattle.world.proofs.nodes.Nodes.arrive.Goals as goal

pub returns-in-Ok-clause-crashed : goal.returns-in-Ok-clause-crashed
returns-in-Ok-clause-crashed g c = either_way c.receive.result c.receive.ensures.crashed c.receive.ensures.uncrashed
