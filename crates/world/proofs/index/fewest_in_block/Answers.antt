use Rattle.std.proofs.Common.{◌+◌, ◌≤◌, subst, arith}
use Rattle.world.specs.Hosts.{network_of}
use Rattle.world.specs.Scheduling.{HaveArrived}
use Rattle.world.proofs.Blocks.{whole_block}
use Rattle.world.proofs.index.fewest_in_block.Goals as goal

pub returns : goal.returns
returns g c =
    let w = network_of c.args.nodes.now in
    let least : c.min-2.result ≤ c.arrivals.result = omega (arith, c.min.ensures, c.min-2.ensures) in
    let before : c.min-2.result ≤ c.fewest_between-before.result = omega (arith, c.min.ensures, c.min-2.ensures) in
    let behind : c.min-2.result ≤ c.fewest_between-behind.result = omega (arith, c.min.ensures, c.min-2.ensures) in
    whole_block w c.args.place c.block_start.result c.arrivals.result c.fewest_between-before.result c.fewest_between-behind.result c.min-2.result c.block_start.ensures
    c.arrivals.ensures
    (c.fewest_between-before.ensures w c.requires.index)
    (subst (λ to. HaveArrived w c.fewest_between-behind.result (c.args.place + 1) to) c.block_end.ensures (c.fewest_between-behind.ensures w c.requires.index))
    least before behind
