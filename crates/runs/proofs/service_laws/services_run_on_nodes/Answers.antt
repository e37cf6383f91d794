use Rattle.runs.proofs.Serving.{every_service}
use Rattle.runs.proofs.service_laws.services_run_on_nodes.Goals as goal

pub returns : goal.returns
returns g c config happenings = (every_service config happenings).nodes
