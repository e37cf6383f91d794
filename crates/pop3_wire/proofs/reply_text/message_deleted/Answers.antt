use Rattle.pop3_wire.proofs.FirstLines.{short-message_deleted}
use Rattle.pop3_wire.proofs.reply_text.message_deleted.Goals as goal

pub returns-clause-short : goal.returns-clause-short
returns-clause-short g c =
    rw (c.in_ok-put-2.ensures, c.in_ok-put_number.ensures, c.in_ok-put.ensures, c.in_ok-text.ensures)
    (short-message_deleted c.args.number c.ranges.number.fits)
