use Rattle.std.proofs.Common.{ap}
use Rattle.audit.specs.Nodes.{Replayed}
use Rattle.audit.proofs.Answered.{left_shown}
use Rattle.audit.proofs.replay.Replay.into_outcomes.Goals as goal

pub returns-then-has_node-clause-left : goal.returns-then-has_node-clause-left
returns-then-has_node-clause-left g c = λ id.
    left_shown c.self.inside.node c.self.inside.crashed c.args.self.state c.has_node.result id c.self.invariant (ap (λ (r : Replayed g.row.A.Denot). r.state) c.self.view_is) c.has_node.ensures c.if-has_node.true
