use Rattle.std.proofs.Common.{◌≡◌, ◌<◌, ◌^◌, drop}
use Rattle.pop3_wire.specs.Commands.{number_value as value_of_digits}
use Rattle.script.proofs.Digits.{value_behind}
use Rattle.script.proofs.numbers.value_of.Given as goal

-- the digits that are left decide
abbrev pub invariant-loop-digit : goal.invariant-loop-digit
invariant-loop-digit l = record {
  rest : value_of_digits l.digits ≡ value_behind l.value (drop l.digit-index l.digits);
  fits : l.value < 2 ^ 64;
}
