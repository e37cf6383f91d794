use Rattle.script.proofs.ReadBack.{reads_back}
use Rattle.script.proofs.laws.requests_read_back.Goals as goal

pub returns : goal.returns
returns c = reads_back
