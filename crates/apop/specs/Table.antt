-- The accounts of a table from names to credentials.
use Rattle.std.specs.Prelude.{ℕ, List, map}
use Rattle.apop.specs.Accounts.{Account}
use Rattle.apop.specs.declared.credential.Credential.{Credential}

module _ {A : Type 0} where
  abbrev pub account_with : List ℕ → Credential A → Account
  account_with name credential = record { name = name; method = credential.method; secret = credential.secret }

  abbrev pub accounts_in_table : List (List ℕ × Credential A) → List Account
  accounts_in_table entries = map (λ (name, credential). account_with name credential) entries
