use Rattle.ledger.proofs.Lines.{line_tested}
use Rattle.ledger.proofs.text_reading.is_line.Goals as goal

pub returns-clause-test : goal.returns-clause-test
returns-clause-test c = line_tested c.args.bytes.now c.has_no_line_feed.result c.has_no_line_feed.ensures
