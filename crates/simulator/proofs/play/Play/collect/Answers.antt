use Rattle.std.proofs.Common.{rules, ◌≡◌, ◌<◌, Some, length, ◌∙◌, sym, ap, arith}
use Rattle.simulator.specs.Plays.{given}
use Rattle.simulator.specs.Told.{IsWritten}
use Rattle.simulator.proofs.Telling.{answers_alone, collects_more}
use Rattle.runs.specs.Worlds.{next_answer}
use Rattle.std.specs.declared.alloc.Global.{Global}
use Rattle.world.specs.Values.{WorldValue}
use Rattle.simulator.proofs.play.Play.collect.Goals as goal

pub loop-preserved : goal.loop-preserved
loop-preserved c =
    let n = length c.args.self.now.shown in
    let count : c.len-end.result ≡ n = c.len-end.ensures ∙ ap (λ p. length p.shown) c.self.view_is in
    let more : c.loop.counter < n = omega (arith, c.loop-test.true, count) in
    let w = c.world-world.result.now.world.service in
    let alone = answers_alone w (length c.sent-behind.result.now) (ap length c.sent-behind.ensures.value) in
    let comes : next_answer c.loop.self.world.service ≡ Some c.in-Some.event = ap (λ p. next_answer p.world.service) (sym c.self-in-loop.view_is) ∙ ap (λ (v : WorldValue Global). next_answer v.world.service) (sym c.world-world.ensures) ∙ sym alone ∙ sym c.in-Some.ensures.value in
    let written : IsWritten (given c.loop.self c.in-Some.event) c.give.new.self c.loop.report c.give.new.report = search rules in
    collects_more n c.loop.counter c.args.self.now c.loop.self c.give.new.self c.in-Some.event c.args.report.now c.loop.report c.give.new.report more c.loop.invariant comes written
