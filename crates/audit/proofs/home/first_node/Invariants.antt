use Rattle.std.proofs.Common.{◌≡◌, drop}
use Rattle.audit.specs.Checks.{first_node}
use Rattle.audit.proofs.home.first_node.Given as goal

abbrev pub invariant-loop-entry : goal.invariant-loop-entry
invariant-loop-entry g l = first_node l.entries ≡ first_node (drop l.entry-index l.entries)
