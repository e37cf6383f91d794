use Rattle.std.proofs.Common.{length}
use Rattle.maildrop.specs.Text.{IsLine}
use Rattle.mboxrd.proofs.ReaderLemmas.{HasTaken}
use Rattle.mboxrd.proofs.reader.take_in.Given as goal

abbrev pub invariant-loop-end : goal.invariant-loop-end
invariant-loop-end g l = record {
  line : IsLine l.line.items;
  taken : HasTaken l.piece l.rest l.fn.texts.items l.fn.text l.fn.line.items l.texts.items l.text l.line.items;
}

abbrev pub decreases-loop-end : goal.decreases-loop-end
decreases-loop-end g l = length l.rest
