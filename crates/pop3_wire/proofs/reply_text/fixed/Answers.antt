use Rattle.std.proofs.Common.{arith}
use Rattle.pop3_wire.proofs.FirstLines.{through-le}
use Rattle.pop3_wire.proofs.reply_text.fixed.Goals as goal

pub returns-clause-short : goal.returns-clause-short
returns-clause-short g c =
    rw c.in_ok-from_slice.ensures.items (omega (arith, through-le c.args.words.now, c.requires))
