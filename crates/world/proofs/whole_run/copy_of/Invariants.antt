use Rattle.std.proofs.Common.{◌≡◌, take}
use Rattle.world.proofs.whole_run.copy_of.Given as goal

abbrev pub invariant-loop-entry : goal.invariant-loop-entry
invariant-loop-entry g l = l.copy.items ≡ take l.entry-index l.performed
