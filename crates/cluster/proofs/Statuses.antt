-- A node that is up stands as its log says.
use Rattle.std.proofs.Common.{◌≡◌, ◌∙◌, sym, ℕ, true, false, Option, Some, None}
use Rattle.std.specs.Prelude.{is_none}
use Rattle.std.specs.declared.alloc.Global.{Global}
use Rattle.node.specs.Nodes.{IsKnown}
use Rattle.node.specs.declared.log.NodeLog.{NodeLog}
use Rattle.node.specs.declared.stopped.Stopped.{Stopped}
use Rattle.cluster.specs.Members.{IsLogOf, IsStatusOf, status_of}
use Rattle.cluster.specs.declared.setup.Setup.{Setup}
use Rattle.cluster.specs.declared.status.Status.{Status}

pub status_as_logged : (setup : Setup) (me : ℕ) (log : NodeLog Global) (stopped : Option Stopped) (s : Status)
    → IsLogOf setup me log → s.up ≡ is_none stopped → (IsKnown stopped → s ≡ status_of (is_none stopped) log) → IsStatusOf setup me s
status_as_logged setup me log None s opened up known is_up = (log, opened, known tt)
status_as_logged setup me log (Some stop) s opened up known is_up = let wrong : false ≡ true = sym up ∙ is_up in absurd (cc wrong)
