use Rattle.std.proofs.Common.{sym, ◌∙◌, arith}
use Rattle.records.proofs.Heads.{agree-done}
use Rattle.records.proofs.head.agree.Goals as goal

pub returns : goal.returns
returns c = sym (c.loop-i.invariant ∙ agree-done c.args.bytes.now c.args.others.now c.loop-i.i (omega arith))
