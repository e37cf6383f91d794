use Rattle.std.proofs.Common.{◌∙◌, ◌++◌, append-nil, ap, subst, sym}
use Rattle.std.specs.Prelude.{option_map, option_to_list}
use Rattle.batches.specs.Readers.{HasReadSegment}
use Rattle.store.specs.Loading.{HasTakenRecord}
use Rattle.store.proofs.Loads.{none_came, record_taken}
use Rattle.store.proofs.loading.Loader.take_records.Goals as goal

pub loop-payload-preserved : goal.loop-payload-preserved
loop-payload-preserved c =
    let payload = c.in-Some.payload.items in
    let batched = c.is_batched.result in
    let old = c.loop-payload.self in
    let one = subst (λ p. HasTakenRecord batched p old c.take_record.new.self) c.deref.ensures.value c.in_ok-take_record.ensures.taken in
    let taken = subst (λ n. HasTakenRecord batched payload old n) (sym c.pass.ensures) one in (
      λ bytes step. record_taken bytes payload c.loop-payload.reader c.next.new.self batched old c.pass.new.self
          (λ bs gs h. subst (λ o. HasReadSegment bs (gs ++ option_to_list (option_map (λ v. v.items) o)) c.next.new.self) c.in-Some.is (c.in_ok-payload.ensures.read bs gs h))
          c.is_batched.ensures c.in_ok-payload.ensures.version taken (c.loop-payload.invariant.0 bytes step),
      ap (λ l. l.number) c.pass.ensures ∙ c.in_ok-take_record.ensures.number ∙ c.loop-payload.invariant.1,
    )

pub returns-clause-taken : goal.returns-clause-taken
returns-clause-taken c = λ bytes step.
    none_came bytes c.loop-payload.reader c.next.new.self c.loop-payload.self
    (λ bs gs h. subst (λ rs. HasReadSegment bs rs c.next.new.self) (append-nil gs) (subst (λ o. HasReadSegment bs (gs ++ option_to_list (option_map (λ v. v.items) o)) c.next.new.self) c.in_default.is (c.in_ok-payload.ensures.read bs gs h)))
    c.in_ok-payload.ensures.version (c.loop-payload.invariant.0 bytes step)
