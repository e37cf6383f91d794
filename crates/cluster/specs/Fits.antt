-- Which outcomes an operation may have.
use Rattle.std.specs.Prelude.{Bool, true, false}
use Rattle.maildrop.specs.declared.op.Op.{Op}
use Rattle.maildrop.specs.declared.op.Op.TheVariants.{Mail, Take, Commit, Free, Break}
use Rattle.maildrop.specs.declared.outcome.Outcome.{Outcome}
use Rattle.maildrop.specs.declared.outcome.Outcome.TheVariants.{NoSuchUser, TooLarge, Full, IdsUsed, Stored, InUse, Taken, Done, NotHolder}
use Rattle.cluster.specs.declared.op_kind.OpKind.{OpKind}
use Rattle.cluster.specs.declared.op_kind.OpKind.TheVariants as kind

module _ {A : Type 0} where
  abbrev pub kind_of : Op A → OpKind
  kind_of (Mail text key) = kind.Mail
  kind_of Take = kind.Take
  kind_of (Commit lock uids) = kind.Return
  kind_of (Free lock) = kind.Return
  kind_of Break = kind.Break

  -- whether an operation of this kind may have this outcome: NoSuchUser without a maildrop, else those of its own
  abbrev pub fits : OpKind → Outcome A → Bool
  fits kind NoSuchUser = true
  fits kind.Mail TooLarge = true
  fits kind.Mail Full = true
  fits kind.Mail IdsUsed = true
  fits kind.Mail (Stored uid) = true
  fits kind.Take InUse = true
  fits kind.Take (Taken messages) = true
  fits kind.Return Done = true
  fits kind.Return NotHolder = true
  fits kind.Break Done = true
  fits kind outcome = false

  abbrev pub may_answer : Outcome A → Op A → Bool
  may_answer outcome op = fits (kind_of op) outcome
