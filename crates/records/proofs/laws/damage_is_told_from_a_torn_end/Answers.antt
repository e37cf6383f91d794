use Rattle.records.proofs.WholeFiles.{damaged_file, torn_file}
use Rattle.records.proofs.laws.damage_is_told_from_a_torn_end.Goals as goal

pub returns-clause-damaged : goal.returns-clause-damaged
returns-clause-damaged c = damaged_file

pub returns-clause-torn : goal.returns-clause-torn
returns-clause-torn c = torn_file
