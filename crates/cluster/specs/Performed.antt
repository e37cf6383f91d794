-- What a node shows of the commands that it has performed.
use Rattle.std.specs.Prelude.{◌≡◌, ℕ, List, drop}
use Rattle.std.specs.declared.alloc.Global.{Global}
use Rattle.maildrop.specs.declared.command.Command.{Command}
use Rattle.node.specs.Replay.{replayed}
use Rattle.node.specs.declared.log.NodeLog.{NodeLog}
use Rattle.cluster.specs.Members.{IsLogOf}
use Rattle.cluster.specs.declared.setup.Setup.{Setup}

-- the commands that a log leads to, each with its slot, in the order in which they are performed, after so many of them
abbrev pub performed_after : ℕ → NodeLog Global → List (ℕ × Command Global)
performed_after taken log = drop taken (replayed log).replica.performed

-- these commands come after so many at the node of this number, as some log of it says
abbrev pub ArePerformedAfter : ℕ → Setup → ℕ → List (ℕ × Command Global) → Type 0
ArePerformedAfter taken setup me commands = (log : NodeLog Global) × IsLogOf setup me log × (commands ≡ performed_after taken log)
