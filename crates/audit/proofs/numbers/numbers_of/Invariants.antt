use Rattle.std.proofs.Common.{take}
use Rattle.node.specs.Nodes.{AreGiven}
use Rattle.audit.specs.Numbers.{AreNumbered}
use Rattle.audit.proofs.numbers.numbers_of.Given as goal

abbrev pub invariant-loop-place : goal.invariant-loop-place
invariant-loop-place g l = record {
  given : AreGiven (take l.place l.log.inputs) l.given.entries;
  numbered : AreNumbered l.log l.place l.numbers.tickets.items l.numbers.places.entries;
}
