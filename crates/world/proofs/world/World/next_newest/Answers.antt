use Rattle.world.proofs.Keeping.{kept_untaken}
use Rattle.world.proofs.world.World.next_newest.Goals as goal

pub next_newest-requires-clause-untaken : goal.next_newest-requires-clause-untaken
next_newest-requires-clause-untaken g c =
    let w = c.self.inside in
    kept_untaken w.config w.hosts w.connections.entries w.operations.entries c.self.invariant.0

pub next_newest-requires-clause-current : goal.next_newest-requires-clause-current
next_newest-requires-clause-current g c = c.self.invariant.1
