-- The test of lines.
use Rattle.std.proofs.Common.{◌≡◌, ℕ, Bool, true, false, List, get_or, refl, sym, ap}
use Rattle.std.specs.Prelude.{IsTrue, ◌↔◌, not}
use Rattle.std.specs.List.{list_any}
use Rattle.std.proofs.lemmas.Bool.{eqb-true}
use Rattle.std.proofs.lemmas.List.Folds.{list_any_none, list_any_at}
use Rattle.memchr.specs.Find.{is_byte}
use Rattle.maildrop.specs.Text.{IsLine}
use Rattle.ledger.specs.Reading.{is_line}

fails : (b : Bool) → ¬ (b ≡ true) → b ≡ false
fails true not_true = absurd (not_true refl)
fails false not_true = refl

pub is_line_true : (line : List ℕ) → IsLine line → is_line line ≡ true
is_line_true line is = ap not (list_any_none (is_byte 10) line (λ k d inside. fails _ (λ e. is k d inside (eqb-true (get_or line k d) 10 e))))

pub line-from_test : (line : List ℕ) → is_line line ≡ true → IsLine line
line-from_test line passes = λ k d inside e.
    let found : list_any (is_byte 10) line ≡ true = list_any_at (is_byte 10) line k d inside (rw e refl) in
    let fails : is_line line ≡ false = ap not found in
    absurd (cc)

-- a test of lines is the definition's
pub line_tested : (line : List ℕ) (r : Bool) → (IsTrue r ↔ IsLine line) → r ≡ is_line line
line_tested line true tested = sym (is_line_true line (tested.0 refl))
line_tested line false tested = sym (fails (is_line line) (λ passes. absurd (cc (tested.1 (line-from_test line passes)))))
