use Rattle.pop3_wire.proofs.Ends.{without_cr_drops, without_cr_keeps}
use Rattle.pop3_wire.proofs.line.without_cr.Goals as goal

pub returns-then-last-eq13-clause-value : goal.returns-then-last-eq13-clause-value
returns-then-last-eq13-clause-value c = without_cr_drops _ _ _ c.in-Some.ensures.cases.0 c.if-last-eq13.true

pub returns-else-last-eq13-clause-value : goal.returns-else-last-eq13-clause-value
returns-else-last-eq13-clause-value c = without_cr_keeps _ _ _ c.in-Some.ensures.cases.0 c.if-last-eq13.false
