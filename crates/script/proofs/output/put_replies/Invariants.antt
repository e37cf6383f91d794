use Rattle.std.proofs.Common.{◌≡◌, ◌++◌, ◌≤◌, length, take}
use Rattle.script.specs.Output.{reply_lines}
use Rattle.script.proofs.output.put_replies.Given as goal

-- what is written, and what the rest will bring, is all that was to be written; what stood before is the beginning of it
abbrev pub invariant-loop-line : goal.invariant-loop-line
invariant-loop-line g l =
    (l.out.items ++ reply_lines l.session l.rest ≡ l.fn.out.items ++ reply_lines l.session l.replies)
    × (l.start ≤ length l.out.items)
    × (take l.start l.out.items ≡ l.fn.out.items)

abbrev pub decreases-loop-line : goal.decreases-loop-line
decreases-loop-line g l = length l.rest
