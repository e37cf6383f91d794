use Rattle.service.specs.Epochs.{TellsOn}
use Rattle.service.proofs.epochs.run_epochs.Given as goal

abbrev pub invariant-loop : goal.invariant-loop
invariant-loop g l =
    (goal.iterator-loop g).can_next l.iterator' × (goal.iterator-loop g).is_finite l.iterator'
    × TellsOn (g.W.Write.contents l.initial.writer) (g.W.Write.contents l.writer) l.initial.past l.past
