use Rattle.node.proofs.Kept.{waits_known}
use Rattle.node.proofs.node.Node.waiting.Goals as goal

pub returns : goal.returns
returns g c =
    rw (← c.self.view_is)
    (waits_known c.self.inside.log c.self.inside.roles c.self.inside.given.entries c.self.inside.stopped c.waiting.result c.self.invariant c.waiting.ensures)
