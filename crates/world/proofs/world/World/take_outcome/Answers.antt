use Rattle.world.proofs.CatchingUp.{taken_current}
use Rattle.world.proofs.Keeping.{took_kept}
use Rattle.world.proofs.world.World.take_outcome.Goals as goal

pub invariant_of-self : goal.invariant_of-self
invariant_of-self g c =
    let w = c.self.inside in
    let t = c.take_outcome in (
      took_kept w.config w.hosts t.new.hosts w.connections.entries w.operations.entries t.new.operations.entries c.args.node c.new.result t.result t.ensures.outcome t.ensures.network t.ensures.operations c.self.invariant.0 t.ensures.others t.ensures.none,
      taken_current w.hosts t.new.hosts w.connections.entries w.connections.waiting t.ensures.network c.self.invariant.1,
    )
