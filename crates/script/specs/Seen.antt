-- The names of the accounts that a script has so far.
use Rattle.std.specs.Prelude.{◌≡◌, ℕ, List}
use Rattle.std.specs.BTreeSet.{BTreeSet, contains}
use Rattle.std.specs.Cmp.Lexicographic.{slice_cmp}
use Rattle.std.specs.Ordering.{nat_cmp}
use Rattle.apop.specs.Accounts.{Account, has_account}

-- the set has the names of the accounts
abbrev pub AreNamesOf : BTreeSet (List ℕ) → List Account → Type 0
AreNamesOf names accounts = (name : List ℕ) → contains (slice_cmp nat_cmp) names name ≡ has_account accounts name
