use Rattle.ledger.proofs.Fronts.{written_stays, snapshot_stays}
use Rattle.ledger.proofs.laws.each_change_keeps_consistency.Goals as goal

pub returns-clause-written : goal.returns-clause-written
returns-clause-written g c = written_stays

pub returns-clause-snapshot : goal.returns-clause-snapshot
returns-clause-snapshot g c = snapshot_stays
