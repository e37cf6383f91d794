use Rattle.std.proofs.Common.{◌≡◌, take}
use Rattle.service.specs.Locks as spec
use Rattle.service.proofs.lock_breaker.locks_of_down.Given as goal

-- those of the locks so far
abbrev pub invariant-loop-lock : goal.invariant-loop-lock
invariant-loop-lock l = l.locks_of_down.items ≡ spec.locks_of_down l.up (take l.lock-index l.locks)
