use Rattle.std.proofs.lemmas.Result.{on_ok_weaker}
use Rattle.simulator.specs.Plays.{all_collected, done, outcomes}
use Rattle.simulator.specs.Told.{followed}
use Rattle.simulator.proofs.Telling.{both_written}
use Rattle.simulator.proofs.play.Play.act_to_the_end.Goals as goal

pub returns : goal.returns
returns c =
    on_ok_weaker c.collect.result
    (λ written. both_written (done c.args.settings.now.host c.args.command c.args.self.now) (λ q. followed (outcomes q) all_collected)
    c.act.new.self c.collect.new.self c.args.report.now c.act.new.report c.collect.new.report c.in_ok-act.ensures
    (both_written (outcomes c.act.new.self) all_collected c.write_outcomes.new.self c.collect.new.self c.act.new.report c.write_outcomes.new.report c.collect.new.report c.in_ok-write_outcomes.ensures written))
    c.collect.ensures
