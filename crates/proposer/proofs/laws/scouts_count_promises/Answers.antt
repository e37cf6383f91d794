use Rattle.proposer.proofs.Heard.{scouts_count}
use Rattle.proposer.proofs.laws.scouts_count_promises.Goals as goal

pub returns : goal.returns
returns g c = scouts_count g.C.Payload.equal g.met.C.Payload.equality
