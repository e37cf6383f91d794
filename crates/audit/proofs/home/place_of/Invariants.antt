use Rattle.std.proofs.Common.{◌≡◌, ◌+◌, drop}
use Rattle.audit.specs.Records as spec
use Rattle.audit.proofs.home.place_of.Given as goal

abbrev pub invariant-loop-place : goal.invariant-loop-place
invariant-loop-place g l = spec.place_of l.node l.logs ≡ l.place + spec.place_of l.node (drop l.place l.logs)
