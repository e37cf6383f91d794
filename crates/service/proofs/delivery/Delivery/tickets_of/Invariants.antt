use Rattle.std.proofs.Common.{◌≡◌, map}
use Rattle.service.proofs.delivery.Delivery.tickets_of.Given as goal

-- the tickets of the texts so far
abbrev pub invariant-loop-one : goal.invariant-loop-one
invariant-loop-one g l = record {
  can_next : (goal.iterator-loop-one g).can_next l.one-iterator;
  finite : (goal.iterator-loop-one g).is_finite l.one-iterator;
  so_far : l.tickets.items ≡ map (λ one. one.ticket) (map (λ one. one.now) l.yielded);
}
