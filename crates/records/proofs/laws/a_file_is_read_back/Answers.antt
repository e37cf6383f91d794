use Rattle.records.proofs.WholeFiles.{whole_file}
use Rattle.records.proofs.laws.a_file_is_read_back.Goals as goal

pub returns : goal.returns
returns c = whole_file
