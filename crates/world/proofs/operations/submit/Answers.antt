use Rattle.std.proofs.Common.{◌∙◌, ap, sym, false}
use Rattle.indexmap.specs.IndexMap.{insert_entry}
use Rattle.maildrop.specs.CommandId.{same_id}
use Rattle.runs.specs.Services.{next_id}
use Rattle.world.proofs.GivenOperations.{insert_last, given_id}
use Rattle.world.proofs.operations.submit.Goals as goal

pub returns-in_ok-insert-in-Ok-Some-clause-operations : goal.returns-in_ok-insert-in-Ok-Some-clause-operations
returns-in_ok-insert-in-Ok-Some-clause-operations g c log at up =
    let es = c.args.operations.now.entries in
    let id = next_id log c.args.user in
    let its = c.new.ensures ∙ given_id _ log c.args.user c.args.op c.in-Ok-Some.ticket at up (sym c.in-Ok-Some.field-0-is ∙ c.in-Ok-Some.ensures.ticket) in
    c.in_ok-insert-in-Ok-Some.ensures.entries ∙ ap (λ xs. insert_entry same_id xs c.new.result false) c.reserve.ensures.entries ∙ ap (λ k. insert_entry same_id es k false) its ∙ insert_last es id false (c.requires.new log at)
