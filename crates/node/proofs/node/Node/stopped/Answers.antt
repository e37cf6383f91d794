use Rattle.std.proofs.Common.{subst}
use Rattle.std.specs.Prelude.{◌≡◌, ◌↔◌, Some}
use Rattle.node.specs.Nodes.{NodeValue, EndsInCrash}
use Rattle.node.specs.declared.stopped.Stopped.TheVariants.{Crashed}
use Rattle.node.proofs.Kept.{ended_of}
use Rattle.node.proofs.node.Node.stopped.Goals as goal

pub returns-clause-ended : goal.returns-clause-ended
returns-clause-ended g c =
    let n = c.self.inside in
    subst (λ (v : NodeValue g.row.A.Denot). (n.stopped ≡ Some Crashed) ↔ EndsInCrash v.log.inputs) c.self.view_is
    (ended_of n.log n.roles n.given.entries n.stopped c.self.invariant)
