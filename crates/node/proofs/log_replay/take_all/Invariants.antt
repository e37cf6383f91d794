use Rattle.std.proofs.Common.{◌≡◌, take}
use Rattle.node.specs.Nodes.{IsKnown, lengthened}
use Rattle.node.proofs.log_replay.take_all.Given as goal

-- the inputs so far are in the log
abbrev pub invariant-loop-input : goal.invariant-loop-input
invariant-loop-input g l =
    (l.node.log ≡ lengthened l.initial.node.log (take l.input-index l.inputs)) × (IsKnown l.initial.node.stopped → IsKnown l.node.stopped)
