-- Words that have no form of an instruction.
use Rattle.std.proofs.Common.{◌≡◌, ◌<◌, ◌≤◌, ℕ, List, [], ◌∷◌, map, length, Err, refl, arith}
use Rattle.script.specs.Instructions.{instruction_of}
use Rattle.script.specs.declared.instruction.WordsFault.TheVariants as fault

-- no form has more than five words
pub too_many : {A : Type 0} (bytes : A → List ℕ) (words : List A) → 6 ≤ length words → Err fault.Value ≡ instruction_of (map bytes words)
too_many bytes [] many = absurd (omega arith)
too_many bytes (a ∷ []) many = absurd (omega arith)
too_many bytes (a ∷ b ∷ []) many = absurd (omega arith)
too_many bytes (a ∷ b ∷ c ∷ []) many = absurd (omega arith)
too_many bytes (a ∷ b ∷ c ∷ d ∷ []) many = absurd (omega arith)
too_many bytes (a ∷ b ∷ c ∷ d ∷ e ∷ []) many = absurd (omega arith)
too_many bytes (a ∷ b ∷ c ∷ d ∷ e ∷ f ∷ more) many = refl

-- nor has one none
pub too_few : {A : Type 0} (bytes : A → List ℕ) (words : List A) → length words < 1 → Err fault.Value ≡ instruction_of (map bytes words)
too_few bytes [] few = refl
too_few bytes (a ∷ more) few = absurd (omega arith)
