use Rattle.std.proofs.Common.{rules, ◌≡◌, None, Some, ◌∙◌, sym, ap, arith}
use Rattle.simulator.specs.Plays.{given, newest}
use Rattle.simulator.specs.Told.{IsWritten}
use Rattle.runs.specs.Worlds.{next_newest}
use Rattle.simulator.proofs.Telling.{settles_more, settles_none}
use Rattle.simulator.proofs.play.Play.storm.Goals as goal

pub returns-in_default : goal.returns-in_default
returns-in_default c =
    let none : newest c.args.copies c.write_outcomes.new.self ≡ None = ap (newest c.args.copies) (sym c.self.view_is) ∙ ap (λ w. next_newest w.world.service c.self.inside.first c.args.copies) (sym c.world.ensures) ∙ sym c.in_default.ensures.value in
    settles_none (newest c.args.copies) c.args.limit c.loop.counter c.args.self.now c.loop.self c.write_outcomes.new.self c.args.report.now c.loop.report c.write_outcomes.new.report
    (omega (arith, c.loop-test.true)) c.loop.invariant c.in_ok-write_outcomes.ensures none

pub loop-preserved : goal.loop-preserved
loop-preserved c =
    let comes : newest c.args.copies c.write_outcomes.new.self ≡ Some c.in-Some.event = ap (newest c.args.copies) (sym c.self.view_is) ∙ ap (λ w. next_newest w.world.service c.self.inside.first c.args.copies) (sym c.world.ensures) ∙ sym c.in-Some.ensures.value in
    let written : IsWritten (given c.write_outcomes.new.self c.in-Some.event) c.give.new.self c.write_outcomes.new.report c.give.new.report = search rules in
    settles_more (newest c.args.copies) c.args.limit c.loop.counter c.args.self.now c.loop.self c.write_outcomes.new.self c.give.new.self c.in-Some.event c.args.report.now c.loop.report c.write_outcomes.new.report c.give.new.report
    (omega (arith, c.loop-test.true)) c.loop.invariant c.in_ok-write_outcomes.ensures comes written
