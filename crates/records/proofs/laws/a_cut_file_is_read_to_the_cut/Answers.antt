use Rattle.records.proofs.WholeFiles.{cut_file}
use Rattle.records.proofs.laws.a_cut_file_is_read_to_the_cut.Goals as goal

pub returns : goal.returns
returns c = cut_file
