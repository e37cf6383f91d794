use Rattle.std.proofs.Common.{◌<◌, length, subst, arith}
use Rattle.audit.specs.Placings.{IsMoved}
use Rattle.audit.proofs.Remaining.{fewer_left}
use Rattle.audit.proofs.pass.place_log.Goals as goal

pub loop-moved-smaller : goal.loop-moved-smaller
loop-moved-smaller g c =
    let logs = c.args.logs.now in
    let ts = c.args.transcripts.now in
    let now = c.loop-moved.placing in
    let new = c.place_next.new.placing in
    let one = subst (IsMoved logs ts c.args.node now new) c.if-branch.true c.in_ok-place_next.ensures.moved in
    let more : length now.placements.items < length new.placements.items = omega (arith, one) in
    fewer_left logs ts new (length now.placements.items) c.in_ok-place_next.ensures.placed more
