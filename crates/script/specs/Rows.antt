-- The bytes of rows of accounts.
use Rattle.std.specs.Prelude.{◌≡◌, ℕ, List, [], ◌++◌, None}
use Rattle.std.specs.Str.Lines.{lines}
use Rattle.apop.specs.Accounts.{Account, accounts_in, first_fault}

abbrev pub accounts_written : List ℕ → List Account
accounts_written bytes = accounts_in (lines bytes)

-- rows of accounts, none with a name that stands before, each with its line feed: what is added begins a line
pub record AreRows (bytes : List ℕ) : Type 0 where
  pub goes_on : (more : List ℕ) → lines (bytes ++ more) ≡ lines bytes ++ lines more
  pub sound : first_fault [] (lines bytes) ≡ None
