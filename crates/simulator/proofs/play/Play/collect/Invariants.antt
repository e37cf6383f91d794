use Rattle.std.proofs.Common.{◌≡◌, ◌-◌, length}
use Rattle.simulator.specs.Plays.{collected, all_collected}
use Rattle.simulator.proofs.Telling.{text_before}
use Rattle.simulator.proofs.play.Play.collect.Given as goal

-- what is written, and what the rest will bring, is all that was to be written
abbrev pub invariant-loop : goal.invariant-loop
invariant-loop l = text_before l.report (collected (length l.fn.self.shown - l.counter) l.self) ≡ text_before l.fn.report (all_collected l.fn.self)
