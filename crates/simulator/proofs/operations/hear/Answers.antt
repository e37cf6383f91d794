use Rattle.std.proofs.Common.{arith}
use Rattle.simulator.proofs.Following.{all_heard, next_heard}
use Rattle.simulator.proofs.operations.hear.Goals as goal

pub loop-number-init : goal.loop-number-init
loop-number-init c ids so = (so, λ node low high. absurd (omega (arith, low, high)))

pub loop-number-preserved : goal.loop-number-preserved
loop-number-preserved c ids so =
    let so_far = c.loop-number.invariant ids so in (
      c.hear_one.ensures.followed ids so_far.0,
      next_heard c.args.world.now.world ids c.loop-number.waiting c.hear_one.new.waiting c.loop-number.number so_far.1
          (c.hear_one.ensures.own ids so_far.0 c.loop-number.auto.number (omega (arith, c.loop-number-test.true))) c.hear_one.ensures.others,
    )

pub returns-clause-followed : goal.returns-clause-followed
returns-clause-followed c ids so = (c.loop-number.invariant ids so).0

pub returns-clause-current : goal.returns-clause-current
returns-clause-current c ids so =
    let so_far = c.loop-number.invariant ids so in
    all_heard c.args.world.now.world ids c.loop-number.waiting so_far.0 (λ node low high. so_far.1 node low (let past = c.loop-number-test.false in omega (arith, high, past)))
