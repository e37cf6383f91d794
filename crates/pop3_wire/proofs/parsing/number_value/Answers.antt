use Rattle.std.proofs.Common.{arith}
use Rattle.pop3_wire.proofs.Digits.{few_digits_small, digit_high}
use Rattle.pop3_wire.proofs.parsing.number_value.Goals as goal

pub overflow_mul-number : goal.overflow_mul-number
overflow_mul-number c = omega (arith, few_digits_small _ _ c.loop-digit.invariant.small (omega arith))

pub overflow_add-number : goal.overflow_add-number
overflow_add-number c = omega (arith, few_digits_small _ _ c.loop-digit.invariant.small (omega arith), digit_high c.args.digits.now c.loop-digit.digit-index (omega arith) c.requires.digits)
