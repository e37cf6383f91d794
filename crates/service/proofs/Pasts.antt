-- What is known of the epochs that have ended, once one more verdict is known.
use Rattle.std.proofs.Common.{◌≡◌, ℕ, ◌+◌, ◌∷◌, Bool, true, false, Option, Some, None, refl, sym, ◌∙◌, subst, arith}
use Rattle.std.specs.Prelude.{◌&&◌}
use Rattle.std.proofs.lemmas.Bool.{true≢false}
use Rattle.std.proofs.lemmas.List.Elements.{All-cons}
use Rattle.std.specs.declared.alloc.Global.{Global}
use Rattle.maildrop.specs.Kept.{KeptTable}
use Rattle.service.specs.Epochs.{EpochValue, HasLedIfGood, LeadTo, WasLegalEpoch, with_pending}
use Rattle.service.specs.declared.verdict.Verdict.{Verdict}
use Rattle.service.specs.declared.verdict.Verdict.TheVariants.{Legal}

all_three : (x y z : Bool) → (x && y && z) ≡ true → (x ≡ true) × (y ≡ true) × (z ≡ true)
all_three true true true e = (refl, refl, refl)
all_three true true false e = absurd (true≢false (sym e))
all_three true false z e = absurd (true≢false (sym (sym (none z) ∙ e)))
  where
    none : (z : Bool) → (false && z) ≡ false
    none true = refl
    none false = refl
all_three false y z e = absurd (true≢false (sym (sym (none y z) ∙ e)))
  where
    none : (y z : Bool) → (false && y && z) ≡ false
    none true true = refl
    none true false = refl
    none false true = refl
    none false false = refl

pub collected : (first kept : KeptTable Global) (told told' : ℕ) (good counted legal : Bool) (audited : Option EpochValue) (epoch : EpochValue) (verdict : Verdict)
    → HasLedIfGood (record { first = first; kept = kept; told = told; is_good = good; pending = audited }) → audited ≡ Some epoch
    → (counted ≡ true → told' ≡ told + 1) → (legal ≡ true → verdict ≡ Legal) → (verdict ≡ Legal → WasLegalEpoch epoch)
    → HasLedIfGood (record { first = first; kept = kept; told = told'; is_good = good && counted && legal; pending = None })
collected first kept told told' good counted legal audited epoch verdict led its more ok was all =
    let each = all_three good counted legal all in
    let h = led each.0 in
    let one_more = more each.1 in
    record {
      before = epoch ∷ h.before;
      opens = subst (λ o. LeadTo first (with_pending o h.before) kept) its h.opens;
      legal = All-cons WasLegalEpoch epoch h.before (was (ok each.2)) h.legal;
      count = let same = h.count in omega (arith, one_more, same);
    }
