-- Which nodes of a service a process runs.
use Rattle.std.specs.Prelude.{◌≡◌, refl, ℕ, List, [], ◌∷◌, Option, None, Some}
use Rattle.cluster.specs.Starts.{all_nodes}

-- the nodes that run in a process: the one of this number, or all
abbrev pub nodes_here : ℕ → Option ℕ → List ℕ
nodes_here cluster None = all_nodes cluster
nodes_here cluster (Some node) = node ∷ []

-- node 3 of three may run in a process of its own
third_node : nodes_here 3 (Some 3) ≡ 3 ∷ []
third_node = refl
