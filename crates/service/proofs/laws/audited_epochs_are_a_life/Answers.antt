use Rattle.service.proofs.EpochRuns.{life_of}
use Rattle.service.proofs.laws.audited_epochs_are_a_life.Goals as goal

pub returns : goal.returns
returns c = life_of c.a_legal_order_is_a_run.ensures
