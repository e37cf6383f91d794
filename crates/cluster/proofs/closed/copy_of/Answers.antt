use Rattle.std.proofs.Common.{◌∙◌}
use Rattle.cluster.proofs.Bests.{copied}
use Rattle.cluster.proofs.closed.copy_of.Goals as goal

pub returns : goal.returns
returns c = c.in_ok-add_others_of.ensures.all ∙ copied c.new-copy.result c.args.kept.now c.new-copy.ensures
