use Rattle.std.proofs.Common.{◌≡◌, ◌-◌}
use Rattle.simulator.specs.Plays.{newest, settled}
use Rattle.simulator.proofs.Telling.{text_before}
use Rattle.simulator.proofs.play.Play.storm.Given as goal

-- what is written, and what the rest will bring, is all that was to be written
abbrev pub invariant-loop : goal.invariant-loop
invariant-loop l = text_before l.report (settled (newest l.fn.copies) (l.fn.limit - l.counter) l.self) ≡ text_before l.fn.report (settled (newest l.fn.copies) l.fn.limit l.fn.self)
