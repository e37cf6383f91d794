use Rattle.std.proofs.Common.{◌≡◌}
use Rattle.service.specs.Epochs.{TellsOn}
use Rattle.service.proofs.epoch_run.watch.Given as goal

abbrev pub invariant-loop : goal.invariant-loop
invariant-loop g l =
    (goal.iterator-loop g).can_next l.iterator' × (goal.iterator-loop g).is_finite l.iterator' × (l.past.kept ≡ l.initial.past.kept)
    × TellsOn (g.W.Write.contents l.initial.writer) (g.W.Write.contents l.writer) l.initial.past l.past
