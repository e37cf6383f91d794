use Rattle.mboxrd.proofs.ReadingLemmas.{IsLine-unquoted}
use Rattle.mboxrd.proofs.reader.end_line.Goals as goal

pub push-requires-in-Some-text : goal.push-requires-in-Some-text
push-requires-in-Some-text g c = rw c.unquoted.ensures (IsLine-unquoted c.args.line.now c.requires)
