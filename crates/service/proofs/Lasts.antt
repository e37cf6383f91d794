-- The last epoch of a service is the one that has just ended.
use Rattle.std.proofs.Common.{◌≡◌, ℕ, Option, Some, None, Result, Ok, Err, IfOk, IfSome, sym, ap, ◌∙◌, subst}
use Rattle.std.specs.Option.{option_map}
use Rattle.std.specs.declared.alloc.Global.{Global}
use Rattle.maildrop.specs.Kept.{KeptTable}
use Rattle.maildrop.specs.Limits.{Limits}
use Rattle.ports.specs.declared.fault.Fault.{Fault}
use Rattle.service.specs.EpochEnds.{IsLeftOf}
use Rattle.service.specs.Epochs.{EpochValue, IsEpochOf, PastValue}
use Rattle.service.specs.declared.epoch_run.EpochLeft.{EpochLeft}
use Rattle.service.specs.declared.epochs.LastEpoch.{LastEpoch}

module _ (nodes window : ℕ) (limits : Limits) (keys : ℕ) where
  its_epoch : (kept : KeptTable Global) (left : Option EpochLeft) (ended : Option EpochValue) → IfSome left (IsLeftOf nodes window limits keys kept)
      → ended ≡ option_map (λ l. l.epoch) left → IfSome ended (IsEpochOf nodes window limits keys kept)
  its_epoch kept None ended h e = subst (λ o. IfSome o (IsEpochOf nodes window limits keys kept)) (sym e) tt
  its_epoch kept (Some one) ended h e = subst (λ o. IfSome o (IsEpochOf nodes window limits keys kept)) (sym e) h.0

  pub last_of : (kept : KeptTable Global) (asked after : PastValue) (left : Option EpochLeft) (result : Result (Option LastEpoch) Fault)
      → IfSome left (IsLeftOf nodes window limits keys kept) → asked.kept ≡ kept → asked.pending ≡ None
      → IfOk result (λ found. IfSome found (λ last. (after ≡ asked) × (last.ended ≡ option_map (λ l. l.epoch) left)))
      → IfOk result (λ found. IfSome found (λ last. (after.pending ≡ None) × IfSome last.ended (IsEpochOf nodes window limits keys after.kept)))
  last_of kept asked after left (Err fault) h same none both = tt
  last_of kept asked after left (Ok None) h same none both = tt
  last_of kept asked after left (Ok (Some last)) h same none both =
      let then : after.kept ≡ kept = ap (λ p. p.kept) both.0 ∙ same in (
        ap (λ p. p.pending) both.0 ∙ none,
        subst (λ k. IfSome last.ended (IsEpochOf nodes window limits keys k)) (sym then) (its_epoch kept left last.ended h both.1),
      )
