-- The numbers that an option may have.
use Rattle.std.specs.Prelude.{ℕ, ◌-◌, Option, Some, None}
use Rattle.command_line.specs.declared.range.Range.{Range}
use Rattle.command_line.specs.declared.range.Range.TheVariants.{Between, BelowNodes, Nodes}

-- the lowest number and the highest one; none if they depend on the number of nodes, which isn't given
abbrev pub ends : Range → Option ℕ → Option (ℕ × ℕ)
ends (Between low high) nodes = Some (low, high)
ends BelowNodes (Some nodes) = Some (0, 65535 - nodes)
ends BelowNodes None = None
ends Nodes (Some nodes) = Some (1, nodes)
ends Nodes None = None
