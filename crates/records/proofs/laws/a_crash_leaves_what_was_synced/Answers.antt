use Rattle.records.proofs.WholeFiles.{left_file}
use Rattle.records.proofs.laws.a_crash_leaves_what_was_synced.Goals as goal

pub returns : goal.returns
returns c = left_file
