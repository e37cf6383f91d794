use Rattle.pop3_wire.proofs.FirstLines.{short-number_line}
use Rattle.pop3_wire.proofs.ResponseCodes.{no_code-numbers}
use Rattle.pop3_wire.proofs.reply_text.two_numbers.Goals as goal

pub returns-clause-short : goal.returns-clause-short
returns-clause-short g c =
    rw (c.in_ok-put_numbers.ensures, c.in_ok-put.ensures, c.in_ok-text.ensures)
    (short-number_line c.args.first c.args.second c.ranges.first.fits c.ranges.second.fits)

pub returns-clause-code : goal.returns-clause-code
returns-clause-code g c =
    rw (c.in_ok-put_numbers.ensures, c.in_ok-put.ensures, c.in_ok-text.ensures)
    (no_code-numbers c.args.first c.args.second c.ranges.first.fits)
