use Rattle.std.proofs.Common.{subst}
use Rattle.std.proofs.lemmas.Bool.{leb-true}
use Rattle.world.specs.Hosts.{Hosts, network_of}
use Rattle.world.specs.Scheduling.{IsQuiet}
use Rattle.world.proofs.Blocks.{quiet_block}
use Rattle.world.proofs.HostList.{got}
use Rattle.world.proofs.hosts.Hosts.is_quiet.Goals as goal

pub returns-in-Some-clause-quiet : goal.returns-in-Some-clause-quiet
returns-in-Some-clause-quiet g c most from to low high =
    let fewest = c.in-Some.fewest.now in
    let found = got c.deref.result.now c.self.inside.index.items c.args.place fewest c.deref.ensures.value c.in-Some.ensures.lookup.3.0 c.in-Some.ensures.lookup.1 in
    subst (λ (w : Hosts g.row.A.Denot). IsQuiet (network_of w) c.args.copies from to) c.self.view_is
    (quiet_block (network_of c.self.inside.nodes) c.args.place fewest c.args.copies from to (c.self.invariant c.args.place fewest found) (leb-true c.args.copies fewest most) low high)
