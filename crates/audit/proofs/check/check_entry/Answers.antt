use Rattle.std.proofs.Common.{◌≡◌, ◌∙◌, ap, sym, Some}
use Rattle.std.specs.Prelude.{◌&&◌}
use Rattle.audit.specs.Names.{key_by, entry_key}
use Rattle.audit.proofs.Checking.{unchecked, checked, refused}
use Rattle.audit.proofs.check.check_entry.Goals as goal

pub returns-in_default : goal.returns-in_default
returns-in_default g c = λ state named left first. unchecked c.args.log.now state named c.args.entry.now c.args.outcomes.now (ap (key_by c.args.entry.now.name) c.in_default.is) left

pub returns : goal.returns
returns g c = λ state named left first.
    let entry = c.args.entry.now in
    let key : entry_key entry ≡ Some c.new-id.result = ap (key_by entry.name) c.in-Some.is ∙ ap Some (sym c.new-id.ensures) in
    let its = checked c.args.log.now state named entry c.new-id.result c.args.outcomes.now c.take-answer.new.self c.is_first.result c.begun.result c.is_right.result c.take-answer.result key left c.take-answer.ensures.answer c.take-answer.ensures.begun c.take-answer.ensures.others
    (c.is_first.ensures ∙ first c.new-id.result key) c.begun.ensures c.is_right.ensures in
    (ap (λ t. t && c.is_right.result) (sym c.if-not-is_first.false) ∙ its.0, its.1)

pub returns-then-not-is_first : goal.returns-then-not-is_first
returns-then-not-is_first g c = λ state named left first.
    let entry = c.args.entry.now in
    let key : entry_key entry ≡ Some c.new-id.result = ap (key_by entry.name) c.in-Some.is ∙ ap Some (sym c.new-id.ensures) in
    refused c.args.log.now state named entry c.new-id.result c.args.outcomes.now c.take-answer.new.self c.is_first.result c.take-answer.result key left c.take-answer.ensures.answer c.take-answer.ensures.begun c.take-answer.ensures.others
    (c.is_first.ensures ∙ first c.new-id.result key) c.if-not-is_first.true
