use Rattle.std.proofs.Common.{◌≡◌, ◌++◌}
use Rattle.ballot.specs.Sends.{to_all}
use Rattle.ballot.proofs.outgoing.Items+Outgoing+C+A+A.broadcast.Given as goal

abbrev pub invariant-loop-below : goal.invariant-loop-below
invariant-loop-below g l = record { so_far : l.self ≡ l.initial.self ++ to_all l.below l.initial.message; same : l.message ≡ l.initial.message }
