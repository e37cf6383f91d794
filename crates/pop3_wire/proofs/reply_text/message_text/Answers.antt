use Rattle.pop3_wire.proofs.FirstLines.{short-message_text}
use Rattle.pop3_wire.proofs.ResponseCodes.{no_code-message_text}
use Rattle.pop3_wire.proofs.reply_text.message_text.Goals as goal

pub returns-clause-short : goal.returns-clause-short
returns-clause-short g c =
    rw (c.in_ok-put_wire.ensures, c.in_ok-put_message_line.ensures, c.in_ok-reply.ensures)
    (short-message_text c.args.octets c.args.text.now c.ranges.octets.fits)

pub returns-clause-code : goal.returns-clause-code
returns-clause-code g c =
    rw (c.in_ok-put_wire.ensures, c.in_ok-put_message_line.ensures, c.in_ok-reply.ensures)
    (no_code-message_text c.args.octets c.args.text.now c.ranges.octets.fits)
