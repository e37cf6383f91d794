use Rattle.world.proofs.Crashes.{either_way}
use Rattle.world.proofs.hosts.Hosts.submit.Goals as goal

pub returns-in-Ok-clause-crashed : goal.returns-in-Ok-clause-crashed
returns-in-Ok-clause-crashed g c = either_way c.take.result c.take.ensures.crashed c.take.ensures.uncrashed
