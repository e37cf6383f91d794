-- What is known of a mailbox while its lines are read.
use Rattle.std.proofs.Common.{◌≡◌, ◌≢◌, ℕ, ◌<◌, ◌==◌, Bool, true, false, cond, List, [], ◌∷◌, ◌++◌, length, map, refl, sym, ap, ◌∙◌, arith}
use Rattle.std.proofs.lemmas.List.Elements.{All-tail}
use Rattle.maildrop.specs.Text.{IsLine}
use Rattle.mboxrd.specs.Mailbox.{is_quotable, unquoted, without_last_empty}

-- a line with another after it stays
without_last_empty-more : (line next : List ℕ) (more : List (List ℕ)) → without_last_empty (line ∷ next ∷ more) ≡ line ∷ without_last_empty (next ∷ more)
without_last_empty-more [] next more = refl
without_last_empty-more (b ∷ bs) next more = refl

-- a line that isn't empty stays
without_last_empty-line : (line : List ℕ) (more : List (List ℕ)) → 0 < length line → without_last_empty (line ∷ more) ≡ line ∷ without_last_empty more
without_last_empty-line [] more some = absurd (omega arith)
without_last_empty-line (b ∷ bs) more some = refl

-- an empty line at the end goes
pub without_last_empty-push_empty : (lines : List (List ℕ)) → without_last_empty (lines ++ [] ∷ []) ≡ lines
without_last_empty-push_empty [] = refl
without_last_empty-push_empty (line ∷ []) = without_last_empty-more line [] []
without_last_empty-push_empty (line ∷ next ∷ more) =
    without_last_empty-more line next (more ++ [] ∷ []) ∙ ap (λ ls. line ∷ ls) (without_last_empty-push_empty (next ∷ more))

-- any other line at the end stays
pub without_last_empty-push : (lines : List (List ℕ)) (last : List ℕ) → 0 < length last → without_last_empty (lines ++ last ∷ []) ≡ lines ++ last ∷ []
without_last_empty-push [] last some = without_last_empty-line last [] some
without_last_empty-push (line ∷ []) last some =
    without_last_empty-more line last [] ∙ ap (λ ls. line ∷ ls) (without_last_empty-line last [] some)
without_last_empty-push (line ∷ next ∷ more) last some =
    without_last_empty-more line next (more ++ last ∷ []) ∙ ap (λ ls. line ∷ ls) (without_last_empty-push (next ∷ more) last some)

-- a line that is not empty is not empty unquoted, by the tests of `unquoted`
unquoted-some : (quote quotable : Bool) (b : ℕ) (bs : List ℕ) → quotable ≡ is_quotable bs → 0 < length (cond quote (cond quotable bs (b ∷ bs)) (b ∷ bs))
unquoted-some true true b [] is = absurd (cc)
unquoted-some true true b (b' ∷ bs) is = omega arith
unquoted-some true false b bs is = omega arith
unquoted-some false quotable b bs is = omega arith

-- lines are unquoted after the empty one is dropped, or before
pub unquoted-without_last_empty : (lines : List (List ℕ)) → map unquoted (without_last_empty lines) ≡ without_last_empty (map unquoted lines)
unquoted-without_last_empty [] = refl
unquoted-without_last_empty ([] ∷ []) = refl
unquoted-without_last_empty ([] ∷ next ∷ more) = ap (λ ls. [] ∷ ls) (unquoted-without_last_empty (next ∷ more))
unquoted-without_last_empty ((b ∷ bs) ∷ more) =
    ap (λ ls. unquoted (b ∷ bs) ∷ ls) (unquoted-without_last_empty more)
    ∙ sym (without_last_empty-line (unquoted (b ∷ bs)) (map unquoted more) (unquoted-some (b == 62) (is_quotable bs) b bs refl))

-- `IsLine-unquoted`, by the tests of `unquoted`
IsLine-either : (quote quotable : Bool) (b : ℕ) (bs : List ℕ) → IsLine (b ∷ bs) → IsLine (cond quote (cond quotable bs (b ∷ bs)) (b ∷ bs))
IsLine-either true true b bs is = All-tail (λ b. b ≢ 10) b bs is
IsLine-either true false b bs is = is
IsLine-either false quotable b bs is = is

-- a line without its `>` is a line
pub IsLine-unquoted : (line : List ℕ) → IsLine line → IsLine (unquoted line)
IsLine-unquoted [] is = is
IsLine-unquoted (b ∷ bs) is = IsLine-either (b == 62) (is_quotable bs) b bs is
