use Rattle.std.proofs.Common.{◌≡◌, ◌==◌, ◌∙◌, sym, ap, true, false, Some}
use Rattle.std.proofs.lemmas.Result.{on_ok_weaker}
use Rattle.node.specs.Replay.{NodeMove}
use Rattle.node.proofs.Views.{moved_to, arrives_here, arrives_elsewhere}
use Rattle.node.proofs.roles.Roles.arrive.Goals as goal

pub returns-then-eq-clause-node : goal.returns-then-eq-clause-node
returns-then-eq-clause-node g c n is =
    let here : (c.args.envelope.to == c.args.me) ≡ true = sym c.eq.ensures ∙ c.if-eq.true in
    on_ok_weaker c.hear.result (λ same. moved_to _ _ _ n is same ∙ ap (λ (m : NodeMove g.row.A.Denot). Some m.after) (sym (arrives_here c.args.me n c.args.envelope here))) c.hear.ensures.node

pub returns-then-eq-clause-sends : goal.returns-then-eq-clause-sends
returns-then-eq-clause-sends g c n is =
    let here : (c.args.envelope.to == c.args.me) ≡ true = sym c.eq.ensures ∙ c.if-eq.true in
    rw (arrives_here c.args.me n c.args.envelope here) (c.hear.ensures.sends n is)

pub returns-else-eq-clause-node : goal.returns-else-eq-clause-node
returns-else-eq-clause-node g c n is =
    let elsewhere : (c.args.envelope.to == c.args.me) ≡ false = sym c.eq.ensures ∙ c.if-eq.false in
    rw (arrives_elsewhere c.args.me n c.args.envelope elsewhere) is
