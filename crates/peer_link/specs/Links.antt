-- A link over TCP, as contracts see it.
use Rattle.std.specs.Prelude.{ℕ, Bool}

-- the port above which the nodes have theirs, and whether what a node sends to itself goes over a connection too
pub record Link : Type 0 where
  pub base_port : ℕ
  pub carries_own : Bool
