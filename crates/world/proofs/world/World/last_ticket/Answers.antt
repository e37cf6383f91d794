use Rattle.world.proofs.world.World.last_ticket.Goals as goal

pub returns : goal.returns
returns g c = rw (← c.self.view_is) c.last_ticket.ensures
