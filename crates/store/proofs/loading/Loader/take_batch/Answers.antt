use Rattle.std.proofs.Common.{◌∙◌, refl}
use Rattle.store.proofs.Loads.{none_taken, payload_taken, rest_fits}
use Rattle.store.proofs.loading.Loader.take_batch.Goals as goal

pub loop-payload-init : goal.loop-payload-init
loop-payload-init c = (none_taken c.args.content.now c.args.self.now (c.is_content.ensures.yes c.if-not-is_content.false), refl)

pub loop-payload-preserved : goal.loop-payload-preserved
loop-payload-preserved c =
    let content = c.args.content.now in
    let rest = c.loop-payload.rest.now in
    let old = c.args.self.now in
    let t = c.loop-payload.invariant.0 in
    let next = c.in-Some.ensures.some t.others (rest_fits content rest old c.loop-payload.self t) t.rest_is in (
      payload_taken content rest c.in-Some.payload.now c.in-Some.others.now old c.loop-payload.self c.take.new.self t next c.in-Some.ensures.shorter c.in_ok-take.ensures.taken,
      c.in_ok-take.ensures.number ∙ c.loop-payload.invariant.1,
    )
