use Rattle.std.proofs.Common.{ℕ, Bool}
use Rattle.audit.specs.Events.{Talk}
use Rattle.audit.specs.Speakers.{AreSpeakers, goes}
use Rattle.audit.proofs.Sweeping.{Swept}
use Rattle.audit.proofs.write.sweep.Given as goal

abbrev pub invariant-loop-session : goal.invariant-loop-session
invariant-loop-session g l =
    (at : ℕ → ℕ) (answered : ℕ → Bool) (talks : ℕ → Talk) → AreSpeakers at answered talks l.initial.speakers → Swept at answered (goes l.node) talks l.initial.events.items l.session l.events.items l.speakers
