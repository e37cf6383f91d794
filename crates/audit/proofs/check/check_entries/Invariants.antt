use Rattle.std.proofs.Common.{ℕ, List, Option}
use Rattle.std.specs.Map.{lookup}
use Rattle.maildrop.specs.CommandId.{CommandId, same_id}
use Rattle.audit.specs.Checks.{AreFound, IsLeft}
use Rattle.audit.specs.Names.{named_in}
use Rattle.audit.specs.Replays.{Replay}
use Rattle.audit.proofs.Checking.{Midway}
use Rattle.audit.proofs.check.check_entries.Given as goal

abbrev pub invariant-loop-number : goal.invariant-loop-number
invariant-loop-number g l =
    (state : Replay g.row.A.Denot) (named : List CommandId) (rest : CommandId → Option (ℕ × ℕ)) → IsLeft state named l.initial.outcomes
    → AreFound l.session 0 named (λ id. named_in id l.session 0 l.entries (rest id)) (λ id. lookup (same_id id) l.names.entries)
    → Midway l.log state (λ id. lookup (same_id id) l.names.entries) rest l.session named l.entries l.number l.outcomes
