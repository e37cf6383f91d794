use Rattle.std.proofs.Common.{◌∙◌, ap}
use Rattle.maildrop.specs.Same.{identity_of}
use Rattle.world.proofs.Watching.{watches_both, heard_next}
use Rattle.world.proofs.waiting.Waiting.hear_all.Goals as goal

pub loop-command-preserved : goal.loop-command-preserved
loop-command-preserved g c =
    let so_far = c.loop-command.invariant in
    record {
      others = watches_both c.args.self.now c.loop-command.self c.hear_one.new.self so_far.others c.hear_one.ensures.others;
      own = heard_next c.args.self.now c.loop-command.self c.hear_one.new.self c.args.node c.args.news.now c.loop-command.command-index c.loop-command-item.result c.id.result
          c.loop-command-test.true c.loop-command-item.is (c.id.ensures ∙ ap identity_of c.get.ensures) so_far.others so_far.own c.hear_one.ensures.own c.hear_one.ensures.others;
    }
