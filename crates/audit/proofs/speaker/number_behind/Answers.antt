use Rattle.std.proofs.Common.{◌+◌, arith}
use Rattle.audit.proofs.Turning.{drop_behind}
use Rattle.audit.proofs.speaker.number_behind.Goals as goal

pub returns-then-number-kinds-clause-left : goal.returns-then-number-kinds-clause-left
returns-then-number-kinds-clause-left c = drop_behind c.args.kinds.now c.args.number (c.args.number + 1) c.if-number-kinds.true (omega arith)
