use Rattle.std.proofs.Common.{length, subst}
use Rattle.audit.specs.Answered.{is_answered_by}
use Rattle.audit.specs.Placings.{HavePassed}
use Rattle.audit.proofs.Remaining.{fewer_left}
use Rattle.audit.proofs.Stepping.{nothing_is_placed, all_stuck}
use Rattle.audit.proofs.pass.place_all.Goals as goal

pub loop-answered-init : goal.loop-answered-init
loop-answered-init g c =
    let begun = c.in_ok-placing.ensures in
    record {
      placed = nothing_is_placed c.args.logs.now c.args.transcripts.now c.in_ok-placing.placing begun.replays begun.sent begun.placements;
      answered = c.in_ok-answered.ensures (is_answered_by c.args.logs.now c.in_ok-placing.placing.replays.items);
    }

pub loop-answered-smaller : goal.loop-answered-smaller
loop-answered-smaller g c =
    let logs = c.args.logs.now in
    let ts = c.args.transcripts.now in
    let now = c.loop-answered.placing in
    let new = c.pass.new.placing in
    let more = subst (HavePassed logs ts (length logs) now new) c.if-branch.true c.in_ok-pass.ensures.moved in
    fewer_left logs ts new (length now.placements.items) c.in_ok-pass.ensures.placed more

pub returns : goal.returns
returns g c =
    let logs = c.args.logs.now in
    let ts = c.args.transcripts.now in
    let now = c.loop-answered.placing in
    let new = c.pass.new.placing in
    let none = subst (HavePassed logs ts (length logs) now new) c.if-branch.false c.in_ok-pass.ensures.moved in
    record {
      placed = c.in_ok-pass.ensures.placed;
      stuck = all_stuck logs ts new none.1;
    }
