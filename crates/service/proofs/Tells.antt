-- What was written says as much of epochs that didn't change.
use Rattle.std.proofs.Common.{◌≡◌, ℕ, List, Option, sym, subst}
use Rattle.service.specs.Epochs.{PastValue, TellsOn}

pub after_same : (old new : Option (List ℕ)) (before told after : PastValue) → TellsOn old new before told → after ≡ told → TellsOn old new before after
after_same old new before told after tells same = subst (λ p. TellsOn old new before p) (sym same) tells

pub before_same : (old new : Option (List ℕ)) (before same after : PastValue) → TellsOn old new same after → same ≡ before → TellsOn old new before after
before_same old new before same after tells is_same = subst (λ p. TellsOn old new p after) is_same tells
