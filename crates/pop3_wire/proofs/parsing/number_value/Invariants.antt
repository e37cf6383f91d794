use Rattle.std.proofs.Common.{◌≡◌, ◌<◌, ◌^◌, take}
use Rattle.pop3_wire.specs.Commands.{number_value}
use Rattle.pop3_wire.proofs.parsing.number_value.Given as goal

abbrev pub invariant-loop-digit : goal.invariant-loop-digit
invariant-loop-digit l = record {
  value : l.number ≡ number_value (take l.digit-index l.digits);
  small : l.number < 10 ^ l.digit-index;
}
