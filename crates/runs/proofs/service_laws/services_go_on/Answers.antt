use Rattle.runs.proofs.Lives.{opens_next, own_front, stays_kept}
use Rattle.runs.proofs.service_laws.services_go_on.Goals as goal

pub returns-clause-opens : goal.returns-clause-opens
returns-clause-opens g c = opens_next

pub returns-clause-front : goal.returns-clause-front
returns-clause-front g c = own_front

pub returns-clause-others : goal.returns-clause-others
returns-clause-others g c = stays_kept
