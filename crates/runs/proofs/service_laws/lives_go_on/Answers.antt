use Rattle.runs.proofs.Lives.{kept_at_last, opens_at_last, told_at_last}
use Rattle.runs.proofs.service_laws.lives_go_on.Goals as goal

pub returns-clause-kept : goal.returns-clause-kept
returns-clause-kept g c = kept_at_last

pub returns-clause-opens : goal.returns-clause-opens
returns-clause-opens g c = opens_at_last

pub returns-clause-told : goal.returns-clause-told
returns-clause-told g c = told_at_last
