use Rattle.runs.proofs.Projected.{every_ticket}
use Rattle.runs.proofs.service_laws.tickets_of_sessions.Goals as goal

pub returns : goal.returns
returns g c = every_ticket
