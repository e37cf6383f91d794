use Rattle.std.proofs.Common.{◌≡◌, ◌∙◌, sym, ap, length}
use Rattle.cluster.specs.Bests.{has_performed_more}
use Rattle.cluster.proofs.Bests.{as_best, more_best}
use Rattle.cluster.proofs.closed.next_best_known.Goals as goal

pub returns-then-has_more-clause-best : goal.returns-then-has_more-clause-best
returns-then-has_more-clause-best c = λ logs is.
    let end = c.close-closed.ensures.left c.requires.known in
    more_best logs c.args.node.log c.args.best c.close-closed.result.1 is end
    (ap (has_performed_more c.args.best) (end.performed ∙ sym (ap length (c.performed.ensures c.requires.known))) ∙ sym c.has_more.ensures ∙ c.if-has_more.true)

pub returns-else-has_more-clause-best : goal.returns-else-has_more-clause-best
returns-else-has_more-clause-best c = λ logs is.
    as_best logs c.args.node.log c.args.best is
    (ap (has_performed_more c.args.best) (sym (ap length (c.performed.ensures c.requires.known))) ∙ sym c.has_more.ensures ∙ c.if-has_more.false)
