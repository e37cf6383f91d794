use Rattle.std.proofs.Common.{◌∙◌}
use Rattle.pop3_wire.proofs.Cutting.{is_nothing-arguments}
use Rattle.pop3_wire.proofs.parsing.is_nothing.Goals as goal

pub returns : goal.returns
returns c = c.is_empty.ensures ∙ is_nothing-arguments _
