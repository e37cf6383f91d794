use Rattle.std.proofs.Common.{◌≡◌, ◌++◌, length}
use Rattle.std.specs.List.{All, flat_map}
use Rattle.maildrop.specs.Text.{IsLine}
use Rattle.pop3_wire.specs.Stuffing.{wire_line, AreStuffed}
use Rattle.pop3_wire.proofs.unstuffing.text_of.Given as goal

-- the lines so far, and those that are left
abbrev pub invariant-loop-line : goal.invariant-loop-line
invariant-loop-line g l = record {
  are_lines : All IsLine l.text.lines;
  read : l.stuffed ≡ flat_map wire_line l.text.lines ++ l.left;
  more : AreStuffed l.left;
}

abbrev pub decreases-loop-line : goal.decreases-loop-line
decreases-loop-line g l = length l.left
