use Rattle.pop3_wire.proofs.Cutting.{split_at_first, split_without}
use Rattle.script.proofs.mail_text.cut_at_bar.Goals as goal

pub returns-in-None-clause-parts : goal.returns-in-None-clause-parts
returns-in-None-clause-parts c = split_without 124 _ c.in-None.ensures

pub returns-in-Some-clause-parts : goal.returns-in-Some-clause-parts
returns-in-Some-clause-parts c = split_at_first 124 _ _ c.in-Some.ensures.0 c.in-Some.ensures.1
