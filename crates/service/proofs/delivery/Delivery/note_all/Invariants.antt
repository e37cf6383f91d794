use Rattle.std.proofs.Common.{◌≡◌, ◌++◌, drop, length, OnOk}
use Rattle.service.specs.Deliveries.{outcome_lines, delivered_after}
use Rattle.service.proofs.delivery.Delivery.note_all.Given as goal

-- what is left to note leads to the same as all from the beginning
abbrev pub invariant-loop-outcome : goal.invariant-loop-outcome
invariant-loop-outcome g l = record {
  submitted : drop (length l.rest) l.submitted.items ≡ drop (length l.outcomes) l.initial.submitted.items;
  delivered : delivered_after l.rest l.submitted.items l.delivered ≡ delivered_after l.outcomes l.initial.submitted.items l.initial.delivered;
  lines : OnOk l.written (l.lines.items ++ outcome_lines l.self.user l.rest l.submitted.items ≡ l.initial.lines.items ++ outcome_lines l.self.user l.outcomes l.initial.submitted.items);
}

abbrev pub decreases-loop-outcome : goal.decreases-loop-outcome
decreases-loop-outcome g l = length l.rest
