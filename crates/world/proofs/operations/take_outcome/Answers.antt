use Rattle.std.proofs.Common.{◌∙◌, ap, sym}
use Rattle.world.proofs.Keeping.{set_same}
use Rattle.world.proofs.operations.take_outcome.Goals as goal
use Rattle.world.proofs.operations.take_outcome.Goals.{then-taken-via-then-taken, then-taken-via-else-taken+then-not-has_answer}

pub returns-then-taken-clause-operations : goal.returns-then-taken-clause-operations
returns-then-taken-clause-operations g c =
    let es = c.args.operations.now.entries in
    let same = (c.get_mut.follows.holds c.in-Some.taken.now).0 ∙ set_same c.args.id es c.in-Some.taken.now (sym c.in-Some.ensures.value) in
    elim c.then-taken.branch [
      | then-taken-via-then-taken w ↦ ap (λ m. m.entries) w.operations-is ∙ same
      | then-taken-via-else-taken+then-not-has_answer w ↦ ap (λ m. m.entries) w.operations-is ∙ same
    ]
