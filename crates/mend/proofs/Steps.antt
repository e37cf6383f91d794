-- One step of the search for whole records, and those that follow it.
use Rattle.std.proofs.Common.{◌≡◌, ℕ, suc, ◌+◌, ◌-◌, ◌<◌, ◌≤◌, Bool, List, [], ◌∷◌, ◌++◌, length, drop, Option, Some, None, refl, sym, ◌∙◌, ap, subst, arith}
use Rattle.std.specs.Option.{option_map_or}
use Rattle.std.specs.declared.alloc.Global.{Global}
use Rattle.maildrop.specs.Kept.{KeptTable}
use Rattle.records.specs.Reading.{record_at}
use Rattle.mend.specs.Taking.{AreTaken, HasTakenRecord}
use Rattle.mend.specs.Finding.{IsStep, found, missed, missed_in}
use Rattle.mend.proofs.Takings.{taken_both}

-- nothing is left
pub none_left : (batched : Bool) (kept : KeptTable Global) → AreTaken batched [] kept kept
none_left batched kept = record { entries = []; are = refl; taken = λ name. refl }

-- nothing is found any more, if no turn is left, or no bytes
pub no_turn : (salt size : ℕ) (bytes : List ℕ) → found 0 salt size bytes ≡ []
no_turn salt size [] = refl
no_turn salt size (b ∷ bytes) = refl

pub no_bytes : (turns salt size : ℕ) (bytes : List ℕ) → length bytes ≡ 0 → found turns salt size bytes ≡ []
no_bytes turns salt size [] none = refl
no_bytes turns salt size (b ∷ bytes) none = absurd (omega (arith, none))

one_step : (batched : Bool) (turns salt size : ℕ) (o : Option (List ℕ × List ℕ)) (b : ℕ) (bytes others : List ℕ) (old mid new : KeptTable Global)
    → IsStep batched o (b ∷ bytes) others old mid → AreTaken batched (found turns salt size others) mid new
    → AreTaken batched (option_map_or (λ r. r.0 ∷ found turns salt size r.1) o (found turns salt size bytes)) old new
one_step batched turns salt size (Some r) b bytes others old mid new step rest =
    let after = subst (λ x. AreTaken batched (found turns salt size x) mid new) step.0 rest in
    record {
      entries = step.1.entries ++ after.entries;
      are = (step.1.entries, after.entries, step.1.are, after.are, refl);
      taken = taken_both step.1.entries after.entries old mid new step.1.taken after.taken;
    }
one_step batched turns salt size None b bytes others old mid new step rest =
    subst (λ k. AreTaken batched (found turns salt size bytes) k new) step.1 (subst (λ x. AreTaken batched (found turns salt size x) mid new) step.0 rest)

-- a step, and what is found after it
pub found_step : (batched : Bool) (turns salt size : ℕ) (bytes others : List ℕ) (old mid new : KeptTable Global) → 0 < length bytes
    → IsStep batched (record_at salt (size - length bytes) bytes) bytes others old mid → AreTaken batched (found turns salt size others) mid new
    → AreTaken batched (found (suc turns) salt size bytes) old new
found_step batched turns salt size [] others old mid new some step rest = absurd (omega (arith, some))
found_step batched turns salt size (b ∷ bytes) others old mid new some step rest =
    one_step batched turns salt size (record_at salt (size - length (b ∷ bytes)) (b ∷ bytes)) b bytes others old mid new step rest

missed_one : (batched : Bool) (turns salt size : ℕ) (o : Option (List ℕ × List ℕ)) (b : ℕ) (bytes others : List ℕ) (old mid : KeptTable Global)
    → IsStep batched o (b ∷ bytes) others old mid
    → option_map_or (λ r. missed turns salt size r.1) o (suc (missed turns salt size bytes)) ≡ missed_in o + missed turns salt size others
missed_one batched turns salt size (Some r) b bytes others old mid step =
    let same : missed turns salt size r.1 ≡ missed turns salt size others = ap (missed turns salt size) (sym step.0) in
    omega (arith, same)
missed_one batched turns salt size None b bytes others old mid step =
    let same : missed turns salt size bytes ≡ missed turns salt size others = ap (missed turns salt size) (sym step.0) in
    omega (arith, same)

-- how many bytes a step passes over
pub missed_step : (batched : Bool) (turns salt size : ℕ) (bytes others : List ℕ) (old mid : KeptTable Global) → 0 < length bytes
    → IsStep batched (record_at salt (size - length bytes) bytes) bytes others old mid
    → missed (suc turns) salt size bytes ≡ missed_in (record_at salt (size - length bytes) bytes) + missed turns salt size others
missed_step batched turns salt size [] others old mid some step = absurd (omega (arith, some))
missed_step batched turns salt size (b ∷ bytes) others old mid some step =
    missed_one batched turns salt size (record_at salt (size - length (b ∷ bytes)) (b ∷ bytes)) b bytes others old mid step
