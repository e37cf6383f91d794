use Rattle.ledger.proofs.Epochs.{read_back, one_maildrop, same_outcomes}
use Rattle.ledger.proofs.laws.restarts_are_reopenings.Goals as goal

pub returns-clause-read_back : goal.returns-clause-read_back
returns-clause-read_back g c = read_back

pub returns-clause-one_maildrop : goal.returns-clause-one_maildrop
returns-clause-one_maildrop g c = one_maildrop

pub returns-clause-outcomes : goal.returns-clause-outcomes
returns-clause-outcomes g c = same_outcomes
