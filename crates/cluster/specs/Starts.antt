-- Which nodes of a cluster can run together, and why a cluster doesn't start.
use Rattle.std.specs.Prelude.{ℕ, zero, suc, nat_le, List, [], ◌∷◌, ◌++◌, Bool, true, ◌&&◌, not}
use Rattle.ballot.specs.Nodes.{is_among}
use Rattle.node.specs.Nodes.{can_begin}
use Rattle.node.specs.declared.node.TheConstants.{WIDEST_WINDOW}
use Rattle.cluster.specs.declared.setup.Setup.{Setup}
use Rattle.cluster.specs.declared.start_error.StartError.{StartError}
use Rattle.cluster.specs.declared.start_error.StartError.TheVariants as error

abbrev pub start_number : StartError → ℕ
start_number error.Memory = 1
start_number error.Thread = 2
start_number error.Setup = 3

-- the numbers of all nodes of a cluster of this size: 1 to it
abbrev pub all_nodes : ℕ → List ℕ
all_nodes zero = []
all_nodes (suc n) = all_nodes n ++ suc n ∷ []

abbrev pub has_window : Setup → Bool
has_window setup = nat_le 1 setup.window && nat_le setup.window WIDEST_WINDOW

-- whether nodes of these numbers can run together: each can begin so, and none is there twice
abbrev pub can_run : Setup → List ℕ → Bool
can_run setup [] = true
can_run setup (me ∷ others) = can_begin me setup.cluster setup.window && not (is_among me others) && can_run setup others
