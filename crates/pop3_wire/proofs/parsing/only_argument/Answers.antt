use Rattle.pop3_wire.proofs.Cutting.{no_only_argument}
use Rattle.pop3_wire.proofs.parsing.only_argument.Goals as goal

pub returns-in-Some : goal.returns-in-Some
returns-in-Some c = no_only_argument _ _ c.in-Some.field-0.1.now c.in-len1-up.len_at_least c.in-Some.ensures
