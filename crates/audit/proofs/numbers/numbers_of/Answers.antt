use Rattle.std.proofs.Common.{ap}
use Rattle.node.specs.Tickets.{tickets_of}
use Rattle.audit.proofs.Finding.{got}
use Rattle.audit.proofs.Numbering.{none_numbered, all_numbered}
use Rattle.audit.proofs.numbers.numbers_of.Goals as goal

pub loop-place-init : goal.loop-place-init
loop-place-init g c = record {
  given = λ name. ap (tickets_of name) c.new-given.ensures.empty;
  numbered = none_numbered c.args.log.now _ _ c.in_ok-with_capacity.ensures.items c.new.ensures.empty;
}

pub number-requires-clause-at : goal.number-requires-clause-at
number-requires-clause-at g c = got c.get-input-items.result.now c.args.log.now.inputs c.loop-place.place c.input-item.result c.get-input-items.ensures c.loop-place-test.true c.input-item.is

pub returns : goal.returns
returns g c = all_numbered c.args.log.now c.loop-place.place c.get-input-items.result.now _ _ c.get-input-items.ensures c.loop-place.auto.place-end c.loop-place-test.false c.loop-place.invariant.numbered
