use Rattle.std.proofs.Common.{ap, ◌∙◌}
use Rattle.node.specs.Nodes.{logged}
use Rattle.node.proofs.LogReplay.{logged_more, still_known}
use Rattle.node.proofs.log_replay.take_all.Goals as goal

pub loop-input-preserved : goal.loop-input-preserved
loop-input-preserved g c = (
  logged_more c.args.node.now.log c.loop-input.node.log c.step.new.self.log c.args.inputs.now c.loop-input.input-index c.input-item.result
      c.loop-input-test.true c.input-item.is c.loop-input.invariant.0 (c.in_ok-step.ensures.log ∙ ap (logged c.loop-input.node.log) c.in_ok-copy.ensures),
  λ known. still_known c.in_ok-copy.field-0 c.step.new.self.stopped c.in_ok-step.ensures.stops,
)
