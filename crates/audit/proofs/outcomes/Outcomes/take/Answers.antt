use Rattle.std.proofs.Common.{◌≡◌, ◌∙◌, ap, sym}
use Rattle.maildrop.specs.CommandId.{CommandId, same_id}
use Rattle.maildrop.proofs.IdOrder.{ids_eq}
use Rattle.audit.specs.Nodes.{answers_left}
use Rattle.audit.proofs.outcomes.Outcomes.take.Goals as goal

pub returns-clause-others : goal.returns-clause-others
returns-clause-others g c = λ other apart.
    let id : CommandId = record { user = c.get-user.result.0; ticket = c.get-user.result.1 } in
    let same : id ≡ c.args.id = λ i. record { user = c.get-user.ensures.user i; ticket = c.get-user.ensures.ticket i } in
    c.take_answer.ensures.others other (ids_eq id other ∙ ap (λ (k : CommandId). same_id k other) same ∙ apart)
    ∙ ap (λ n. answers_left n other) (sym c.in-Some.is ∙ c.self.view_is)
