-- Ranges of options, by hand.
use Rattle.std.specs.Prelude.{◌≡◌, refl, Some, None}
use Rattle.command_line.specs.Ranges.{ends}
use Rattle.command_line.specs.declared.range.Range.TheVariants.{Between, BelowNodes, Nodes}

-- the last of three nodes has the last port
pub ports_of_three_nodes : ends BelowNodes (Some 3) ≡ Some (0, 65532)
ports_of_three_nodes = refl

pub numbers_of_three_nodes : ends Nodes (Some 3) ≡ Some (1, 3)
numbers_of_three_nodes = refl

pub unknown_without_the_nodes : ends Nodes None ≡ None
unknown_without_the_nodes = refl

pub a_range_by_itself : ends (Between 1 1000) None ≡ Some (1, 1000)
a_range_by_itself = refl
