use Rattle.std.proofs.Common.{◌≡◌, ◌≤◌, ◌++◌, length, drop}
use Rattle.audit.specs.Events.{kinds}
use Rattle.audit.specs.Turns.{turns_from}
use Rattle.audit.proofs.turns.push_lines.Given as goal

abbrev pub invariant-loop-number : goal.invariant-loop-number
invariant-loop-number g l = record {
  within : l.next ≤ length l.transcript.asked;
  turns : l.initial.kinds.items ++ kinds (turns_from 0 l.transcript.lines l.transcript.asked) ≡ l.kinds.items ++ kinds (turns_from l.number (drop l.number l.transcript.lines) (drop l.next l.transcript.asked));
}
