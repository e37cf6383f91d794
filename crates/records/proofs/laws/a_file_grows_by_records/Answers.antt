use Rattle.records.proofs.WholeFiles.{file_grows}
use Rattle.records.proofs.laws.a_file_grows_by_records.Goals as goal

pub returns : goal.returns
returns c = file_grows
