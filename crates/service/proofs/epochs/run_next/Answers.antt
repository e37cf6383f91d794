use Rattle.std.proofs.Common.{◌∙◌}
use Rattle.service.proofs.Tells.{before_same}
use Rattle.service.proofs.epochs.run_next.Goals as goal

-- Neither of the two calls before it changes what is known of the epochs.
pub returns-clause-told : goal.returns-clause-told
returns-clause-told g c =
    before_same (g.W.Write.contents c.args.writer.now) (g.W.Write.contents c.run_epoch.new.writer) c.args.past.now c.release.new.self
    c.run_epoch.new.past c.run_epoch.ensures.told (c.release.ensures ∙ c.release_descriptors.ensures)
