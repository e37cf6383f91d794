-- What a maildrop answers fits the operation.
use Rattle.std.proofs.Common.{◌≡◌, ℕ, Bool, true, false, List, Option, Some, None, refl, ap}
use Rattle.std.specs.Prelude.{IfSome, if◌then◌else◌}
use Rattle.maildrop.specs.Ticket.{Ticket}
use Rattle.maildrop.specs.Maildrop.{Maildrop, Effect, effect_of, effect_of_take, delivered, refusal_of, no_effect, is_held_by}
use Rattle.maildrop.specs.Office.{User, maildrop_of, outcome_at, outcome_in}
use Rattle.maildrop.specs.declared.command.Command.{Command}
use Rattle.maildrop.specs.declared.op.Op.{Op}
use Rattle.maildrop.specs.declared.op.Op.TheVariants.{Mail, Take, Commit, Free, Break}
use Rattle.maildrop.specs.declared.outcome.Outcome.{Outcome}
use Rattle.maildrop.specs.declared.outcome.Outcome.TheVariants.{NoSuchUser, TooLarge, Full, IdsUsed, NotHolder, Done}
use Rattle.cluster.specs.Fits.{kind_of, fits, may_answer}
use Rattle.cluster.specs.declared.op_kind.OpKind.{OpKind}
use Rattle.cluster.specs.declared.op_kind.OpKind.TheVariants as kind

refusal_fits : (A : Type 0) (large full used : Bool)
    → IfSome (if large then Some TooLarge else if full then Some Full else if used then Some IdsUsed else None) (λ o. fits {A = A} kind.Mail o ≡ true)
refusal_fits A true full used = refl
refusal_fits A false true used = refl
refusal_fits A false false true = refl
refusal_fits A false false false = tt

nobody_fits : (A : Type 0) (k : OpKind) → fits {A = A} k NoSuchUser ≡ true
nobody_fits A kind.Mail = refl
nobody_fits A kind.Take = refl
nobody_fits A kind.Return = refl
nobody_fits A kind.Break = refl

module _ {A : Type 0} where
  delivery_fits : (m : Maildrop A) (text : List (List ℕ)) (key : Option (List ℕ)) (uid : Option ℕ) (refusal : Option (Outcome A))
      → IfSome refusal (λ o. fits kind.Mail o ≡ true) → fits kind.Mail (delivered m text key uid refusal).outcome ≡ true
  delivery_fits m text key (Some uid) refusal h = refl
  delivery_fits m text key None (Some refusal) h = h
  delivery_fits m text key None None h = refl

  take_fits : (m : Maildrop A) (ticket : Ticket) (holder : Option Ticket) → fits kind.Take (effect_of_take m ticket holder).outcome ≡ true
  take_fits m ticket None = refl
  take_fits m ticket (Some holder) = refl

  return_fits : (held : Bool) (m : Maildrop A) (done : Effect A) → done.outcome ≡ Done → fits kind.Return (if held then done else no_effect m NotHolder).outcome ≡ true
  return_fits true m done is = ap (fits kind.Return) is
  return_fits false m done is = refl

  effect_fits : (m : Maildrop A) (ticket : Ticket) (op : Op A) → may_answer (effect_of m ticket op).outcome op ≡ true
  effect_fits m ticket (Mail text key) = delivery_fits m text key _ (refusal_of m text) (refusal_fits A _ _ _)
  effect_fits m ticket Take = take_fits m ticket m.holder
  effect_fits m ticket (Commit lock uids) = return_fits (is_held_by m.holder lock) m _ refl
  effect_fits m ticket (Free lock) = return_fits (is_held_by m.holder lock) m _ refl
  effect_fits m ticket Break = refl

  answer_fits : (m : Option (Maildrop A)) (c : Command A) → may_answer (outcome_at m c) c.op ≡ true
  answer_fits None c = nobody_fits A (kind_of c.op)
  answer_fits (Some m) c = effect_fits m c.ticket c.op

  pub outcome_fits : (users : List (User A)) (c : Command A) → may_answer (outcome_in users c) c.op ≡ true
  outcome_fits users c = answer_fits (maildrop_of c.user users) c
