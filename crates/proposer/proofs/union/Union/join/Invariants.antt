use Rattle.std.proofs.Common.{◌≡◌, take}
use Rattle.ballot.specs.PValues.{joined}
use Rattle.proposer.proofs.union.Union.join.Given as goal

abbrev pub invariant-loop-pvalue : goal.invariant-loop-pvalue
invariant-loop-pvalue g l = record {
  can_next : (goal.iterator-loop-pvalue g).can_next l.pvalue-iterator;
  finite : (goal.iterator-loop-pvalue g).is_finite l.pvalue-iterator;
  so_far : l.self ≡ joined g.C.Payload.equal l.initial.self l.yielded;
  kept : take l.before l.self ≡ l.initial.self;
}
