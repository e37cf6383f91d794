-- Inputs that are left.
use Rattle.std.specs.Prelude.{◌≡◌, ◌<◌, ◌≤◌, ℕ, length, List, Option, Some, None, slice_get}
use Rattle.node.specs.declared.log.NodeLog.{NodeLog}
use Rattle.audit.specs.Nodes.{Replayed}

module _ {A : Type 0} (logs : List (NodeLog A)) (replays : List (Replayed A)) where
  -- the log at a place is of the node of this number, and has an input left
  pub record IsLeftAt (n number : ℕ) : Type 0 where
    pub log : NodeLog A
    pub replay : Replayed A
    pub its : slice_get logs n ≡ Some log
    pub of_it : slice_get replays n ≡ Some replay
    pub me : log.opening.me ≡ number
    pub left : replay.placed < length log.inputs

  -- the least number of a node of the first logs, so many, that has an input left
  abbrev pub IsLeast : ℕ → Option ℕ → Type 0
  IsLeast count None = (n number : ℕ) → n < count → IsLeftAt n number → ⊥
  IsLeast count (Some number) = ((n : ℕ) × IsLeftAt n number) × ((n other : ℕ) → n < count → IsLeftAt n other → number ≤ other)
