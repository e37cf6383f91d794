use Rattle.std.proofs.Common.{◌∙◌, map, ap, deque_items}
use Rattle.std.proofs.lemmas.Iterator.Consumers.{YieldsList-end, YieldsList-from_deque}
use Rattle.service.proofs.delivery.Delivery.tickets_of.Goals as goal

pub returns : goal.returns
returns g c =
    let end = YieldsList-end (YieldsList-from_deque {s = c.into_iter-one-iterator.result} (deque_items c.args.submitted.now) cc)
    c.loop-one.yielded c.loop-one.one-iterator c.loop-one.yielded_by _ c.next.new.self c.in-None.is c.next.ensures.steps in
    c.loop-one.invariant.so_far ∙ ap (map (λ one. one.ticket)) end.0
