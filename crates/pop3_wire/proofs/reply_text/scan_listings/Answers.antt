use Rattle.std.proofs.Common.{arith}
use Rattle.pop3_wire.proofs.FirstLines.{short-scan_listings}
use Rattle.pop3_wire.proofs.ResponseCodes.{no_code-scan_listings}
use Rattle.pop3_wire.proofs.reply_text.scan_listings.Goals as goal

pub returns-clause-short : goal.returns-clause-short
returns-clause-short g c =
    rw (c.in_ok-put-4.ensures, c.in_ok-put_scans.ensures, c.in_ok-put-3.ensures, c.in_ok-put_number-2.ensures, c.in_ok-put-2.ensures, c.in_ok-put_number.ensures, c.in_ok-put.ensures, c.in_ok-text.ensures)
    (short-scan_listings c.args.octets c.args.messages.now c.ranges.octets.fits (omega arith))

pub returns-clause-code : goal.returns-clause-code
returns-clause-code g c =
    rw (c.in_ok-put-4.ensures, c.in_ok-put_scans.ensures, c.in_ok-put-3.ensures, c.in_ok-put_number-2.ensures, c.in_ok-put-2.ensures, c.in_ok-put_number.ensures, c.in_ok-put.ensures, c.in_ok-text.ensures)
    (no_code-scan_listings c.args.octets c.args.messages.now (omega arith))
