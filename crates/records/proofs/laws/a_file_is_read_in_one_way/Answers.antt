use Rattle.records.proofs.WholeFiles.{one_way}
use Rattle.records.proofs.laws.a_file_is_read_in_one_way.Goals as goal

pub returns : goal.returns
returns c = one_way
