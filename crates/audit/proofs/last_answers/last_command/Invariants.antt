use Rattle.std.proofs.Common.{◌≡◌, [], drop}
use Rattle.audit.specs.Names.{entry_keys}
use Rattle.audit.proofs.last_answers.last_command.Given as goal

abbrev pub invariant-loop-number : goal.invariant-loop-number
invariant-loop-number g l = entry_keys (drop l.number l.entries) ≡ []
