use Rattle.std.proofs.Common.{rules, arith, ◌≤◌, ◌+◌, ◌-◌, ◌*◌, ◌^◌, get_or}
use Rattle.pop3_wire.proofs.Digits.{digit_high}
use Rattle.script.proofs.Digits.{stays_high}
use Rattle.script.proofs.numbers.value_of.Goals as goal

pub overflow_mul-longer : goal.overflow_mul-longer
overflow_mul-longer c = omega (arith, c.loop-digit.invariant.fits, c.from.ensures)

pub overflow_add-longer : goal.overflow_add-longer
overflow_add-longer c = omega (arith, c.loop-digit.invariant.fits, c.from.ensures, c.from-in-loop-digit.ensures, digit_high c.args.digits.now c.loop-digit.digit-index (omega arith) c.requires)

pub returns-in-Err : goal.returns-in-Err
returns-in-Err c =
    let high : 2 ^ 64 ≤ 10 * c.loop-digit.value + (get_or c.args.digits.now c.loop-digit.digit-index 0 - 48) = search rules in
    omega (arith, c.loop-digit.invariant.rest, stays_high c.args.digits.now c.loop-digit.digit-index c.loop-digit.value (2 ^ 64) c.loop-digit-test.true high)
