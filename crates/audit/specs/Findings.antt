-- What the logs and the transcripts tell by themselves.
use Rattle.std.specs.Prelude.{◌≡◌, List}
use Rattle.std.specs.Map.{lookup}
use Rattle.maildrop.specs.CommandId.{CommandId, same_id}
use Rattle.node.specs.declared.log.NodeLog.{NodeLog}
use Rattle.session.specs.declared.transcript.Transcript.{Transcript}
use Rattle.audit.specs.Checks.{AreAllNumbered}
use Rattle.audit.specs.Names.{named_from}
use Rattle.audit.specs.declared.findings.Findings.{Findings}

-- the first session, and its first entry, that names each command, and the tickets of each log
pub record IsFound {A : Type 0} (logs : List (NodeLog A)) (transcripts : List (Transcript A)) (findings : Findings A) : Type 0 where
  pub names : (id : CommandId) → lookup (same_id id) findings.names.entries ≡ named_from id 0 transcripts
  pub numbers : AreAllNumbered logs findings.numbers.items
