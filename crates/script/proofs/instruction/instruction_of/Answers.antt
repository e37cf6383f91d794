use Rattle.std.proofs.Common.{rules}
use Rattle.script.proofs.Forms.{too_few, too_many}
use Rattle.script.proofs.instruction.instruction_of.Goals as goal
use Rattle.script.proofs.instruction.instruction_of.Goals.{in_default-via-then-words-lt1, in_default-via-else-words-lt1+else-words-lt2+else-words-lt3+else-words-lt4+else-words-lt5+else-words-lt6}

pub returns-in_default : goal.returns-in_default
returns-in_default c = elim c.in_default.branch [
  | in_default-via-then-words-lt1 w ↦ too_few _ c.args.words.now (search rules)
  | in_default-via-else-words-lt1+else-words-lt2+else-words-lt3+else-words-lt4+else-words-lt5+else-words-lt6 w ↦ too_many _ c.args.words.now (search rules)
]
