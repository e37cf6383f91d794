use Rattle.std.proofs.Common.{◌≡◌, ◌++◌, drop}
use Rattle.audit.specs.Events.{kinds}
use Rattle.audit.specs.Turns.{hangups}
use Rattle.audit.proofs.turns.push_hangups.Given as goal

abbrev pub invariant-loop-number : goal.invariant-loop-number
invariant-loop-number g l = l.initial.kinds.items ++ kinds (hangups (drop l.next l.entries)) ≡ l.kinds.items ++ kinds (hangups (drop l.number l.entries))
