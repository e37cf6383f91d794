use Rattle.std.proofs.Common.{length, ap}
use Rattle.cluster.proofs.closed.close.Goals as goal

pub returns-clause-left : goal.returns-clause-left
returns-clause-left c = λ known. record {
  kept = c.close-closed.ensures.kept known;
  performed = ap length (c.performed-performed.ensures known);
}
