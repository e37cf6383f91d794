use Rattle.std.specs.Map.{lookup}
use Rattle.maildrop.specs.CommandId.{same_id}
use Rattle.audit.proofs.Firsts.{Onward}
use Rattle.audit.proofs.check.first_wrong.Given as goal

abbrev pub invariant-loop-session : goal.invariant-loop-session
invariant-loop-session g l = Onward l.logs l.transcripts (λ id. lookup (same_id id) l.names.entries) l.session l.outcomes
