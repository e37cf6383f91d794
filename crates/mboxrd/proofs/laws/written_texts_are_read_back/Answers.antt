use Rattle.mboxrd.proofs.RoundTrip.{read_of-written_of_tested}
use Rattle.mboxrd.proofs.laws.written_texts_are_read_back.Goals as goal

pub returns : goal.returns
returns c = read_of-written_of_tested
