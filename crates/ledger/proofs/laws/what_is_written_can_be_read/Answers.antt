use Rattle.ledger.proofs.Coming.{written_can, snapshot_can, taken_all, written_taken, snapshot_taken, segment_taken}
use Rattle.ledger.proofs.laws.what_is_written_can_be_read.Goals as goal

pub returns-clause-written : goal.returns-clause-written
returns-clause-written g c = written_can

pub returns-clause-snapshot : goal.returns-clause-snapshot
returns-clause-snapshot g c = snapshot_can

pub returns-clause-all_taken : goal.returns-clause-all_taken
returns-clause-all_taken g c = taken_all

pub returns-clause-written_read : goal.returns-clause-written_read
returns-clause-written_read g c = written_taken

pub returns-clause-snapshot_read : goal.returns-clause-snapshot_read
returns-clause-snapshot_read g c = snapshot_taken

pub returns-clause-more_read : goal.returns-clause-more_read
returns-clause-more_read g c = segment_taken
