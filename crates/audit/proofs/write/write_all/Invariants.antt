use Rattle.std.proofs.Common.{ℕ, Bool, length}
use Rattle.std.specs.Prelude.{slice_get}
use Rattle.audit.specs.Events.{Talk}
use Rattle.audit.specs.Records.{number_in}
use Rattle.audit.specs.Speakers.{AreSpeakers}
use Rattle.audit.proofs.Writing.{Writ}
use Rattle.audit.proofs.write.write_all.Given as goal

abbrev pub invariant-loop-placement : goal.invariant-loop-placement
invariant-loop-placement g l =
    (at : ℕ → ℕ) (answered : ℕ → Bool) (talks : ℕ → Talk) → AreSpeakers at answered talks l.initial.speakers
    → Writ (λ n. number_in (slice_get l.logs n)) at answered (length l.initial.speakers) l.initial.events.items talks l.placements l.placement-index l.events.items l.speakers
