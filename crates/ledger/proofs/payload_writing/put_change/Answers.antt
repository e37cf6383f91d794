use Rattle.ledger.proofs.Records.{written_again}
use Rattle.ledger.proofs.payload_writing.put_change.Goals as goal

pub returns-else-is_err-clause-read_back : goal.returns-else-is_err-clause-read_back
returns-else-is_err-clause-read_back g c = written_again {A = g.row.A.Denot} c.put_payload-written.result c.args.slot c.args.name.now c.args.change.now c.put_payload-written.ensures.valid
