use Rattle.ledger.proofs.Enough.{enough, written_ids}
use Rattle.ledger.proofs.laws.what_is_written_is_enough.Goals as goal

pub returns-clause-enough : goal.returns-clause-enough
returns-clause-enough g c = enough

pub returns-clause-ids : goal.returns-clause-ids
returns-clause-ids g c = written_ids
