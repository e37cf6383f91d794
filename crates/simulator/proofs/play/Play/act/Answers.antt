use Rattle.std.proofs.Common.{sym, subst}
use Rattle.std.proofs.lemmas.List.{append-nil}
use Rattle.simulator.specs.Plays.{done}
use Rattle.simulator.specs.Told.{IsWritten}
use Rattle.simulator.proofs.play.Play.act.Goals as goal

pub returns-in-Lose : goal.returns-in-Lose
returns-in-Lose c =
    subst (λ k. IsWritten (done c.args.settings.now.host k c.args.self.now) c.lose.new.self c.args.report.now c.args.report.now) (sym c.in-Lose.is)
    (c.lose.ensures, sym (append-nil c.args.report.now))
