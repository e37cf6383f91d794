-- Why a node takes no input any more.
use Rattle.std.specs.Prelude.{ℕ}
use Rattle.node.specs.declared.stopped.Stopped.{Stopped}
use Rattle.node.specs.declared.stopped.Stopped.TheVariants.{Crashed, Memory, TicketsUsed}

abbrev pub stop_number : Stopped → ℕ
stop_number Crashed = 1
stop_number Memory = 2
stop_number TicketsUsed = 3
