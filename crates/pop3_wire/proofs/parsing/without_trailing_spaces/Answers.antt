use Rattle.std.proofs.Common.{sym, ◌∙◌}
use Rattle.pop3_wire.proofs.Ends.{trailing_space_goes, trailing_other_stays}
use Rattle.pop3_wire.proofs.parsing.without_trailing_spaces.Goals as goal

pub returns-then-last-ne32 : goal.returns-then-last-ne32
returns-then-last-ne32 c = sym (c.loop-last.invariant ∙ trailing_other_stays _ _ _ c.in-Some.ensures.cases.0 c.if-last-ne32.true)

pub loop-last-preserved : goal.loop-last-preserved
loop-last-preserved c = c.loop-last.invariant ∙ trailing_space_goes _ _ _ c.in-Some.ensures.cases.0 c.if-last-ne32.false
