use Rattle.std.proofs.Common.{◌∙◌, ap}
use Rattle.world.specs.Hosts.{Hosts, network_of, logs_of, counted, crashes_of}
use Rattle.world.proofs.HostList.{the_network, still_counts, takes_counted}
use Rattle.world.proofs.nodes.Nodes.receive.Goals as goal

pub count_arrival-requires : goal.count_arrival-requires
count_arrival-requires g c =
    still_counts (network_of c.args.self.now) c.args.to c.args.input c.args.which c.self.inside.sent c.requires (ap (λ (w : Hosts g.row.A.Denot). w.sent) c.self.view_is ∙ ap (λ w. w.sent) c.in_ok-take.ensures.ok)

pub returns-clause-ok : goal.returns-clause-ok
returns-clause-ok g c =
    ap (λ ss. the_network (logs_of c.self.inside.hosts.items) ss) c.count_arrival.ensures
    ∙ ap (λ (w : Hosts g.row.A.Denot). counted c.args.which (network_of w)) c.self.view_is
    ∙ ap (counted c.args.which) c.in_ok-take.ensures.ok
    ∙ takes_counted (network_of c.args.self.now) c.args.to c.args.input c.args.which c.requires

pub returns-clause-crashed : goal.returns-clause-crashed
returns-clause-crashed g c = ap crashes_of c.self.view_is ∙ c.in_ok-take.ensures.crashed
