use Rattle.std.proofs.Common.{◌∙◌}
use Rattle.world.proofs.Refusing.{named}
use Rattle.world.proofs.refusal.has_account.Goals as goal

pub returns : goal.returns
returns g c = c.has.ensures ∙ named c.args.config.now.accounts c.args.user
