use Rattle.pop3_wire.proofs.FirstLines.{short-greeting}
use Rattle.pop3_wire.proofs.reply_text.greeting.Goals as goal

pub returns-clause-short : goal.returns-clause-short
returns-clause-short g c few others =
    rw (c.in_ok-put-5.ensures, c.in_ok-put-4.ensures, c.in_ok-put-3.ensures, c.in_ok-put-2.ensures, c.in_ok-put.ensures, c.in_ok-text.ensures)
    (short-greeting c.args.nonce.now c.args.host.now few others)
