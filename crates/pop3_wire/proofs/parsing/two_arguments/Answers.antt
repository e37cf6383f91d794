use Rattle.pop3_wire.proofs.Cutting.{no_two_arguments}
use Rattle.pop3_wire.proofs.parsing.two_arguments.Goals as goal

pub returns-in-Some-cut_at_space : goal.returns-in-Some-cut_at_space
returns-in-Some-cut_at_space c =
    no_two_arguments _ _ _ c.in-Some.second.now c.in-Some-cut_at_space.field-0.1.now c.in-len1-up.len_at_least c.in-Some.ensures c.in-Some-cut_at_space.ensures
