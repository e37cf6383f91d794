use Rattle.std.proofs.Common.{◌≡◌}
use Rattle.leader.specs.Leaders.{replaced}
use Rattle.leader.proofs.adopting.replace.Given as goal

abbrev pub invariant-loop-slot : goal.invariant-loop-slot
invariant-loop-slot g l = l.proposals.entries ≡ replaced l.initial.proposals.entries l.yielded
