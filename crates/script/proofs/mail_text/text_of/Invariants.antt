use Rattle.std.proofs.Common.{◌≡◌, ◌++◌, length}
use Rattle.maildrop.specs.Text.{IsLine}
use Rattle.script.specs.Written.{lines_of}
use Rattle.script.proofs.mail_text.text_of.Given as goal

-- the lines so far, and those that are left, are all
abbrev pub invariant-loop-line : goal.invariant-loop-line
invariant-loop-line g l = record {
  lines : lines_of l.written ≡ l.text.lines ++ lines_of l.rest;
  line : IsLine l.rest;
}

abbrev pub decreases-loop-line : goal.decreases-loop-line
decreases-loop-line g l = length l.rest
