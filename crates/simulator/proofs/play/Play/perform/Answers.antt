use Rattle.std.proofs.Common.{subst}
use Rattle.std.proofs.lemmas.Result.{on_ok_weaker}
use Rattle.simulator.specs.Told.{IsWritten}
use Rattle.simulator.proofs.Telling.{performs_other}
use Rattle.simulator.proofs.play.Play.perform.Goals as goal

pub returns-in_default : goal.returns-in_default
returns-in_default c =
    on_ok_weaker c.act_to_the_end.result
    (subst (λ t. IsWritten t c.act_to_the_end.new.self c.args.report.now c.act_to_the_end.new.report)
    (performs_other c.args.settings.now.host c.args.command c.args.self.now c.in_default.not-Settle c.in_default.not-Storm))
    c.act_to_the_end.ensures
