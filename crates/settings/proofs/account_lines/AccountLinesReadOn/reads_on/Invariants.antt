use Rattle.std.proofs.Common.{length}
use Rattle.settings.proofs.account_lines.AccountLinesReadOn.reads_on.Given as goal

abbrev pub decreases-loop-end : goal.decreases-loop-end
decreases-loop-end l = length l.rest
