use Rattle.audit.proofs.RunFit.{service_fit}
use Rattle.audit.proofs.run_laws.a_service_is_fit.Goals as goal

pub returns : goal.returns
returns g c = service_fit
