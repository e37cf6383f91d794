use Rattle.std.proofs.Common.{◌≤◌, sym, subst, arith}
use Rattle.world.specs.Scheduling.{HaveArrived}
use Rattle.world.proofs.Blocks.{joined, all_fewer, shorter, behind_place}
use Rattle.world.proofs.HostList.{got}
use Rattle.world.proofs.index.fewest_between.Goals as goal

pub loop-place-preserved : goal.loop-place-preserved
loop-place-preserved g c w h =
    let block = c.in-Some.block.now in
    let found = got c.deref.result.now c.args.index.now.items c.loop-place.place block c.deref.ensures.value c.in-Some.ensures.lookup.3.0 c.in-Some.ensures.lookup.1 in
    let least : c.min-fewest.result ≤ c.loop-place.fewest = omega (arith, c.min-fewest.ensures) in
    let less : c.min-fewest.result ≤ block = omega (arith, c.min-fewest.ensures) in
    joined w c.min-fewest.result c.args.from c.loop-place.place c.block_end-place.result
    (all_fewer w c.loop-place.fewest c.min-fewest.result c.args.from c.loop-place.place least (c.loop-place.invariant w h))
    (all_fewer w block c.min-fewest.result c.loop-place.place c.block_end-place.result less
    (subst (λ to. HaveArrived w block c.loop-place.place to) (sym c.block_end-place.ensures) (behind_place w c.loop-place.place block (h c.loop-place.place block found))))

pub returns : goal.returns
returns g c w h = shorter w c.loop-place.fewest c.args.from c.loop-place.place c.args.to c.loop-place-test.false (c.loop-place.invariant w h)
