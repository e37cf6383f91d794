use Rattle.pop3_wire.proofs.Cutting.{split_at_first, split_without}
use Rattle.pop3_wire.proofs.parsing.cut_at_space.Goals as goal

pub returns-in-None : goal.returns-in-None
returns-in-None c = split_without 32 _ c.in-None.ensures

pub returns-in-Some : goal.returns-in-Some
returns-in-Some c = split_at_first 32 _ _ c.in-Some.ensures.0 c.in-Some.ensures.1
