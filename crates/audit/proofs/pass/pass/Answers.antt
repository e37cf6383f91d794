use Rattle.std.proofs.Common.{add-one}
use Rattle.audit.proofs.Remaining.{one_log_more, one_more_stuck, have_passed}
use Rattle.audit.proofs.pass.pass.Goals as goal

pub loop-node-preserved : goal.loop-node-preserved
loop-node-preserved g c =
    let logs = c.args.logs.now in
    let ts = c.args.transcripts.now in
    let n = c.loop-node.node in
    let now = c.loop-node.placing in
    let new = c.place_log.new.placing in
    let moved = c.loop-node.moved in
    let gone = c.in_ok-moved.field-0 in
    let its = c.in_ok-moved.ensures in
    record {
      placed = its.placed;
      answered = its.answered;
      going = one_log_more logs ts c.args.placing.now now new moved gone n c.loop-node.invariant.going its.moved;
      stuck = rw add-one (one_more_stuck logs ts now new moved gone n c.loop-node.invariant.stuck its.moved);
    }

pub returns-clause-moved : goal.returns-clause-moved
returns-clause-moved g c =
    have_passed c.args.logs.now c.args.transcripts.now c.args.placing.now c.loop-node.placing c.loop-node.moved _ c.loop-node.node c.loop-node-test.false c.loop-node.invariant.going c.loop-node.invariant.stuck
