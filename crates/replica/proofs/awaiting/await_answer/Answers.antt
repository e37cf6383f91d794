use Rattle.std.proofs.Common.{◌≡◌, true, false, refl, sym, ◌∙◌}
use Rattle.replica.specs.Replicas.{Rules, rules_of, has_identity}
use Rattle.replica.proofs.awaiting.await_answer.Given.{Over}
use Rattle.replica.proofs.awaiting.await_answer.Goals as goal

abbrev the_rules : (g : Over) → Rules g.row.M-Command.Denot g.row.M-Command-Id.Denot g.row.M-Answer.Denot g.row.M.Denot
the_rules g = rules_of g.M.Command.Payload.identity g.M.Command.Id.Ord.cmp g.M.Machine.answer_to g.M.Machine.after

pub returns-then-has : goal.returns-then-has
returns-then-has g c =
    let known : has_identity (the_rules g) (g.M.Command.Payload.identity c.args.command.now) c.state.inside.performed ≡ true = rw (← c.id-identity.ensures) (sym c.has.ensures ∙ c.if-has.true) in
    rw (← c.state.view_is, known) refl

pub returns : goal.returns
returns g c =
    let fresh : has_identity (the_rules g) (g.M.Command.Payload.identity c.args.command.now) c.state.inside.performed ≡ false = rw (← c.id-identity.ensures) (sym c.has.ensures ∙ c.if-has.false) in
    rw (← c.state.view_is, fresh, c.in_ok-wait.ensures, c.id-identity.ensures) refl
