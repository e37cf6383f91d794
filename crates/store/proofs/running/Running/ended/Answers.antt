use Rattle.std.proofs.Common.{subst}
use Rattle.store.specs.Whole.{IsNumbered}
use Rattle.store.proofs.running.Running.ended.Goals as goal

pub returns-clause-numbered : goal.returns-clause-numbered
returns-clause-numbered g c = subst (λ r. IsNumbered r.number r.salt r.size (g.D.Device.synced r.file.device)) c.self.view_is c.self.invariant
