-- The set of the names of accounts.
use Rattle.std.proofs.Common.{◌≡◌, ℕ, Bool, true, false, ◌||◌, cond, List, [], ◌∷◌, ◌++◌, refl, sym, ap, ◌∙◌}
use Rattle.std.specs.BTreeSet.{BTreeSet, contains, Updates}
use Rattle.std.specs.BTreeMap.{is_at}
use Rattle.std.specs.Cmp.Lexicographic.{slice_cmp}
use Rattle.std.specs.Ordering.{nat_cmp}
use Rattle.std.specs.Str.{bytes_eq}
use Rattle.std.proofs.lemmas.List.Folds.{list_any-append}
use Rattle.std.proofs.lemmas.Map.Text.{is_eq-slice_cmp}
use Rattle.apop.specs.Accounts.{Account, has_account}
use Rattle.script.specs.Seen.{AreNamesOf}

-- what is added here, or was there
cond-or : (here there : Bool) → cond here true there ≡ (there || (here || false))
cond-or true true = refl
cond-or true false = refl
cond-or false true = refl
cond-or false false = refl

-- the name of one more account is one more name of the set
pub AreNamesOf-push : (names more : BTreeSet (List ℕ)) (accounts : List Account) (account : Account) → AreNamesOf names accounts → Updates (slice_cmp nat_cmp) names more account.name true → AreNamesOf more (accounts ++ account ∷ [])
AreNamesOf-push names more accounts account same updates name =
    let is_that : is_at (slice_cmp nat_cmp account.name) name ≡ bytes_eq account.name name = is_eq-slice_cmp account.name name in
    updates.0 name
    ∙ ap (λ here. cond here true (contains (slice_cmp nat_cmp) names name)) is_that
    ∙ ap (λ there. cond (bytes_eq account.name name) true there) (same name)
    ∙ cond-or (bytes_eq account.name name) (has_account accounts name)
    ∙ sym (list_any-append (λ (a : Account). bytes_eq a.name name) accounts (account ∷ []))
