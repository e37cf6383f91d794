use Rattle.std.proofs.Common.{◌∙◌}
use Rattle.node.proofs.Views.{replica_of}
use Rattle.node.proofs.roles.Roles.request.Goals as goal

pub returns-clause-sends : goal.returns-clause-sends
returns-clause-sends g c n is = c.request.ensures.sends n.replica (replica_of _ _ _ n (c.self.view_is ∙ is))
