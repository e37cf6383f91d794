-- The log that has performed the most, as the logs of a cluster are looked at one after another.
use Rattle.std.specs.Prelude.{◌≡◌, ◌≤◌, ℕ, nat_lt, Bool, true, List, [], ◌∷◌, ◌++◌, Option, Some, None}
use Rattle.std.specs.List.{All}
use Rattle.std.specs.declared.alloc.Global.{Global}
use Rattle.node.specs.declared.log.NodeLog.{NodeLog}
use Rattle.cluster.specs.Ends.{kept_by, performed_by}
use Rattle.cluster.specs.declared.closed.Left.{Left}

-- the log leads to this
pub record IsEndOf (log : NodeLog Global) (left : Left) : Type 0 where
  pub kept : left.kept ≡ kept_by log
  pub performed : left.performed ≡ performed_by log

-- one of the logs leads to this, and none of them has performed more
pub record IsMostOf (logs : List (NodeLog Global)) (left : Left) : Type 0 where
  pub before : List (NodeLog Global)
  pub log : NodeLog Global
  pub after : List (NodeLog Global)
  pub order : logs ≡ before ++ log ∷ after
  pub end : IsEndOf log left
  pub most : All (λ other. performed_by other ≤ left.performed) logs

-- the best of the logs so far, if there is one
abbrev pub IsBestOf : List (NodeLog Global) → Option Left → Type 0
IsBestOf logs None = logs ≡ []
IsBestOf logs (Some left) = IsMostOf logs left

-- so many commands are more than the best so far has performed
abbrev pub has_performed_more : Option Left → ℕ → Bool
has_performed_more None performed = true
has_performed_more (Some left) performed = nat_lt left.performed performed
