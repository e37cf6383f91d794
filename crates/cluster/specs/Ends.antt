-- What the end of a cluster leaves.
use Rattle.std.specs.Prelude.{◌≡◌, ◌≤◌, ℕ, List, [], ◌∷◌, ◌++◌, length}
use Rattle.std.specs.List.{All}
use Rattle.std.specs.declared.alloc.Global.{Global}
use Rattle.maildrop.specs.Kept.{KeptTable}
use Rattle.maildrop.specs.Office.{kept_of}
use Rattle.node.specs.Replay.{replayed}
use Rattle.node.specs.declared.log.NodeLog.{NodeLog}
use Rattle.cluster.specs.declared.ended_node.EndedNode.{EndedNode}
use Rattle.cluster.specs.declared.ended_node.EndedNode.TheVariants.{Whole, Closed, Log}
use Rattle.cluster.specs.declared.setup.Setup.{Setup}

-- the log of a node that has ended
abbrev pub log_of : EndedNode → NodeLog Global
log_of (Whole node) = node.log
log_of (Closed log) = log
log_of (Log log) = log

-- what is kept of the maildrops to which a log leads
abbrev pub kept_by : NodeLog Global → KeptTable Global
kept_by log = kept_of (replayed log).replica.machine

-- how many commands a log has performed
abbrev pub performed_by : NodeLog Global → ℕ
performed_by log = length (replayed log).replica.performed

-- one of the logs leads to what is kept, and none of them has performed more
pub record IsLeftByOne (logs : List (NodeLog Global)) (kept : KeptTable Global) : Type 0 where
  pub before : List (NodeLog Global)
  pub log : NodeLog Global
  pub after : List (NodeLog Global)
  pub order : logs ≡ before ++ log ∷ after
  pub its : kept ≡ kept_by log
  pub most : All (λ other. performed_by other ≤ performed_by log) logs

-- what is kept once nodes with these logs have ended: without a log, what the nodes opened with
abbrev pub IsLeftBy : Setup → List (NodeLog Global) → KeptTable Global → Type 0
IsLeftBy setup [] kept = kept ≡ setup.kept
IsLeftBy setup (log ∷ logs) kept = IsLeftByOne (log ∷ logs) kept
