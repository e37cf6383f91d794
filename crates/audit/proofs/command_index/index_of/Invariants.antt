use Rattle.std.proofs.Common.{◌≡◌, drop}
use Rattle.std.specs.Map.{lookup}
use Rattle.maildrop.specs.CommandId.{CommandId, same_id}
use Rattle.audit.specs.Names.{named_from}
use Rattle.audit.proofs.command_index.index_of.Given as goal

abbrev pub invariant-loop-session : goal.invariant-loop-session
invariant-loop-session g l = (id : CommandId) → lookup (same_id id) l.names.entries ≡ named_from id l.session (drop l.session l.transcripts)
