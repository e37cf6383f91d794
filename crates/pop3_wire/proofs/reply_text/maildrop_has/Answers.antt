use Rattle.pop3_wire.proofs.FirstLines.{short-maildrop_has}
use Rattle.pop3_wire.proofs.reply_text.maildrop_has.Goals as goal

pub returns-clause-short : goal.returns-clause-short
returns-clause-short g c =
    rw (c.in_ok-put-3.ensures, c.in_ok-put_number-2.ensures, c.in_ok-put-2.ensures, c.in_ok-put_number.ensures, c.in_ok-put.ensures, c.in_ok-text.ensures)
    (short-maildrop_has c.args.messages c.args.octets c.ranges.messages.fits c.ranges.octets.fits)
