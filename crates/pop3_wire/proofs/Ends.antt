-- What lists lose at their ends.
use Rattle.std.proofs.Common.{◌≡◌, ◌≢◌, ℕ, false, if◌then◌else◌, ◌==◌, List, [], ◌∷◌, ◌++◌, ap, refl, sym, arith, append-nil, ◌∙◌}
use Rattle.pop3_wire.specs.Lines.{without_cr}
use Rattle.pop3_wire.specs.Commands.{without_trailing_spaces, unless_trailing}

without_cr-append : (xs : List ℕ) (b : ℕ) → without_cr (xs ++ b ∷ []) ≡ xs ++ (if b == 13 then [] else b ∷ [])
without_cr-append [] b = refl
without_cr-append (x ∷ []) b = refl
without_cr-append (x ∷ (y ∷ ys)) b = ap (λ zs. x ∷ zs) (without_cr-append (y ∷ ys) b)

-- one CR at the end goes
pub without_cr_drops : (xs front : List ℕ) (b : ℕ) → xs ≡ front ++ b ∷ [] → b ≡ 13 → front ≡ without_cr xs
without_cr_drops xs front b parts cr = sym (rw (parts, without_cr-append front b, cr) (append-nil front))

-- another byte at the end stays
pub without_cr_keeps : (xs front : List ℕ) (b : ℕ) → xs ≡ front ++ b ∷ [] → b ≢ 13 → xs ≡ without_cr xs
without_cr_keeps xs front b parts other =
    let no : (b == 13) ≡ false = grind arith in
    rw (parts, without_cr-append front b, no) refl

without_trailing_spaces-append_space : (xs : List ℕ) → without_trailing_spaces (xs ++ 32 ∷ []) ≡ without_trailing_spaces xs
without_trailing_spaces-append_space [] = refl
without_trailing_spaces-append_space (x ∷ xs) = ap (unless_trailing x) (without_trailing_spaces-append_space xs)

unless_trailing-append : (x : ℕ) (xs : List ℕ) (b : ℕ) → unless_trailing x (xs ++ b ∷ []) ≡ x ∷ (xs ++ b ∷ [])
unless_trailing-append x [] b = refl
unless_trailing-append x (y ∷ ys) b = refl

without_trailing_spaces-append_other : (xs : List ℕ) (b : ℕ) → (b == 32) ≡ false → without_trailing_spaces (xs ++ b ∷ []) ≡ xs ++ b ∷ []
without_trailing_spaces-append_other [] b other = rw other refl
without_trailing_spaces-append_other (x ∷ xs) b other =
    ap (unless_trailing x) (without_trailing_spaces-append_other xs b other) ∙ unless_trailing-append x xs b

-- a space at the end goes
pub trailing_space_goes : (xs front : List ℕ) (b : ℕ) → xs ≡ front ++ b ∷ [] → b ≡ 32 → without_trailing_spaces xs ≡ without_trailing_spaces front
trailing_space_goes xs front b parts space = rw (parts, space) (without_trailing_spaces-append_space front)

-- bytes that end in no space stay
pub trailing_other_stays : (xs front : List ℕ) (b : ℕ) → xs ≡ front ++ b ∷ [] → b ≢ 32 → without_trailing_spaces xs ≡ xs
trailing_other_stays xs front b parts other =
    let no : (b == 32) ≡ false = grind arith in
    rw parts (without_trailing_spaces-append_other front b no)
