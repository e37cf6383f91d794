use Rattle.node.proofs.Views.{office_of}
use Rattle.node.proofs.roles.Roles.into_parts.Goals as goal

pub returns : goal.returns
returns g c = rw (← c.self.view_is) (office_of c.self.inside.acceptor c.self.inside.leader c.self.inside.replica c.into_parts-office.result.0 c.into_parts-office.ensures)
