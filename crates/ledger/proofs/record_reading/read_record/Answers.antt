use Rattle.std.proofs.Common.{arith}
use Rattle.ledger.proofs.Records.{given_whole}
use Rattle.ledger.proofs.record_reading.read_record.Goals as goal

pub returns-clause-whole : goal.returns-clause-whole
returns-clause-whole g c = given_whole {A = g.row.A.Denot} c.args.bytes.now c.record_of.result (λ i. omega (arith, c.type_inv.bytes i)) c.record_of.ensures.value
