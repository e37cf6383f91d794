use Rattle.mend.proofs.Takings.{IsPart, no_part, rest_fits, one_more, all_taken}
use Rattle.mend.proofs.taking.take_batch.Goals as goal

pub loop-payload-init : goal.loop-payload-init
loop-payload-init c = no_part c.args.content.now c.args.kept.now (c.is_content.ensures.yes c.if-not-is_content.false)

pub loop-payload-preserved-then-not-branch : goal.loop-payload-preserved-then-not-branch
loop-payload-preserved-then-not-branch c =
    let content = c.args.content.now in
    let rest = c.loop-payload.rest.now in
    let p = c.loop-payload.invariant in
    let next = c.in-Some.ensures.some p.others (rest_fits content rest c.args.kept.now c.loop-payload.kept p) p.rest_is in
    one_more content rest c.in-Some.payload.now c.in-Some.others.now c.args.kept.now c.loop-payload.kept c.take_payload.new.kept p next c.in-Some.ensures.shorter c.in_ok-take_payload.ensures

pub loop-payload-preserved : goal.loop-payload-preserved
loop-payload-preserved c =
    let content = c.args.content.now in
    let rest = c.loop-payload.rest.now in
    let p = c.loop-payload.invariant in
    let next = c.in-Some.ensures.some p.others (rest_fits content rest c.args.kept.now c.loop-payload.kept p) p.rest_is in
    one_more content rest c.in-Some.payload.now c.in-Some.others.now c.args.kept.now c.loop-payload.kept c.take_payload.new.kept p next c.in-Some.ensures.shorter c.in_ok-take_payload.ensures

pub returns : goal.returns
returns c =
    let content = c.args.content.now in
    let rest = c.loop-payload.rest.now in
    let p = c.loop-payload.invariant in
    all_taken content rest c.args.kept.now c.loop-payload.kept p (c.in_default.ensures.none p.others (rest_fits content rest c.args.kept.now c.loop-payload.kept p) p.rest_is)
