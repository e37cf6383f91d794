use Rattle.ledger.proofs.Taking.{added, segment_read}
use Rattle.ledger.proofs.laws.what_is_taken_is_written.Goals as goal

pub returns-clause-own : goal.returns-clause-own
returns-clause-own g c = added

pub returns-clause-read : goal.returns-clause-read
returns-clause-read g c = segment_read
