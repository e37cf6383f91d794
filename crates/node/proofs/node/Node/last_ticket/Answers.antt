use Rattle.std.proofs.Common.{ap, ◌∙◌}
use Rattle.node.specs.Nodes.{NodeValue}
use Rattle.node.specs.Replay.{last_ticket}
use Rattle.node.specs.Tickets.{ticket_at}
use Rattle.node.proofs.Kept.{given_of}
use Rattle.node.proofs.node.Node.last_ticket.Goals as goal

pub returns : goal.returns
returns g c =
    let n = c.self.inside in
    c.last_ticket.ensures
    ∙ ap (ticket_at n.log.opening.me) (given_of n.log n.roles n.given.entries n.stopped c.self.invariant c.args.user)
    ∙ ap (λ (v : NodeValue g.row.A.Denot). last_ticket v.log.opening.me c.args.user v.log.inputs) c.self.view_is
