use Rattle.world.proofs.Keeping.{kept_untaken}
use Rattle.world.proofs.world.World.next_oldest.Goals as goal

pub next_oldest-requires-clause-untaken : goal.next_oldest-requires-clause-untaken
next_oldest-requires-clause-untaken g c =
    let w = c.self.inside in
    kept_untaken w.config w.hosts w.connections.entries w.operations.entries c.self.invariant.0

pub next_oldest-requires-clause-current : goal.next_oldest-requires-clause-current
next_oldest-requires-clause-current g c = c.self.invariant.1
