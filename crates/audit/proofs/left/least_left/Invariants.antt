use Rattle.std.proofs.Common.{◌⊎◌}
use Rattle.audit.proofs.Least.{NoneSoFar, OneSoFar}
use Rattle.audit.proofs.left.least_left.Given as goal

abbrev pub invariant-loop-place : goal.invariant-loop-place
invariant-loop-place g l = NoneSoFar l.logs l.replays l.place l.least ⊎ OneSoFar l.logs l.replays l.place l.least
