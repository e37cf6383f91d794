use Rattle.std.proofs.Common.{◌≡◌, drop}
use Rattle.std.specs.Map.{lookup}
use Rattle.maildrop.specs.CommandId.{CommandId, same_id}
use Rattle.audit.specs.Names.{named_in}
use Rattle.audit.proofs.command_index.enter.Given as goal

abbrev pub invariant-loop-number : goal.invariant-loop-number
invariant-loop-number g l = (id : CommandId) → lookup (same_id id) l.names.entries ≡ named_in id l.session l.number (drop l.number l.asked) (lookup (same_id id) l.initial.names.entries)
