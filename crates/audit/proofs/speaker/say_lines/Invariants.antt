use Rattle.std.proofs.Common.{◌≡◌, ◌++◌, drop}
use Rattle.audit.specs.Events.{said, unsaid}
use Rattle.audit.proofs.speaker.say_lines.Given as goal

abbrev pub invariant-loop-count : goal.invariant-loop-count
invariant-loop-count g l = record {
  left : unsaid l.kinds ≡ unsaid (drop l.count l.kinds);
  events : l.initial.events.items ++ said l.session l.kinds ≡ l.events.items ++ said l.session (drop l.count l.kinds);
}
